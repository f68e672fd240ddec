mod Evaluating
mod Mentioning
