mod Ends
mod Statements
