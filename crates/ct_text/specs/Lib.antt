pub mod Place
pub mod Tokens
pub mod Token
pub mod Numbers
pub mod NumberLaw
pub mod TokenLaw
pub mod Pieces
pub mod PiecesLaw
