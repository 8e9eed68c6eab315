mod EachLemmas
mod LengthLemmas
mod Samples
mod SampleLengths
