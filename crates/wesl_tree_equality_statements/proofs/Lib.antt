mod OfDeclarations
mod OfImports
mod OfSelectors
mod OfStatementLayers
mod OfStatementCases
mod OfStatementSteps
mod OfStatements
mod OfFunctions
