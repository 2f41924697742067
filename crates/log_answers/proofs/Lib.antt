mod Answers
mod Turns
