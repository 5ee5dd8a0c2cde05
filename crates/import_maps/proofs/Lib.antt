mod KeptLemmas
mod StepLemmas
