mod ValueLemmas
mod NarrowVolumes
mod RunLemmas
mod MadeLemmas
mod NetworkLemmas
mod GivenLemmas
mod MovedLemmas
