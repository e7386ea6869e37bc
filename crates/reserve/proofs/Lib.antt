pub mod PlanLaws
pub mod StoreForms
pub mod AnswerForms
pub mod MeanLaws
pub mod ReadyLaws
