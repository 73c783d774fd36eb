mod BitLemmas
mod PlaneLemmas
mod WordLemmas
