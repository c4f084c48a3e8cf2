pub mod DemandOnWords
