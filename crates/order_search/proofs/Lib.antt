pub mod NoCalls
