pub mod FunctionRules
