mod LitmusLemmas
mod WitnessLemmas
