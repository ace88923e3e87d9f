mod Bools
mod Chains
mod Pairs
mod Respelled
mod Shown
mod UnlikeExpressions
mod UnlikeStatements
