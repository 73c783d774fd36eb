pub mod FedLemmas
pub mod PortLemmas
pub mod AnsweringLemmas
pub mod AnsweredLemmas
pub mod TakenLemmas
