mod EndLemmas
mod HandedLemmas
mod HostedLemmas
