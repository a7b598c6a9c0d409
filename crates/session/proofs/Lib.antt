pub mod FreshLaws
pub mod RepLaws
pub mod BitLaws
pub mod BankLaws
pub mod RoundedLaws
pub mod StoreLaws
