pub mod Counter
pub mod GrammarExamples
pub mod SyntaxExamples
pub mod BadPlaceExample
pub mod NearestElseExample
pub mod CounterSource
