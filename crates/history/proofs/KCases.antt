-- K1 to K13, every part of each, and the cases of mode 2, of the editions, of what is lost and of what a bank can do, as claims about the rules themselves.
use lib.Dec.{T}
use Rattle.timing.specs.Rules.{rules, covers, matching}
use Rattle.timing.specs.Banks.{is_open_bank, some_bank}
use Rattle.timing.specs.Earliest.{reach, floor, pair_asks, acts, four_asks, asks, latest, earliest}
use Rattle.history.specs.Records.{standing}
use Rattle.history.specs.Answers.{first_of, offer_on, earliest_on, fits, follows, fine}
use Rattle.history.specs.Cases.{k_lasts, k_cases, group_cases, edition_cases, loss_cases, bank_cases, all_right}

pub k_cases_lem : T (all_right k_cases)
unfolding rules covers matching reach floor pair_asks acts four_asks asks latest earliest standing first_of offer_on earliest_on fits follows fine k_lasts k_cases all_right
k_cases_lem = tt

pub group_cases_lem : T (all_right group_cases)
unfolding rules covers matching reach floor pair_asks acts four_asks asks latest earliest standing first_of offer_on earliest_on fits follows fine group_cases all_right
group_cases_lem = tt

pub edition_cases_lem : T (all_right edition_cases)
unfolding rules covers matching reach floor pair_asks acts four_asks asks latest earliest standing first_of offer_on earliest_on fits follows fine edition_cases all_right
edition_cases_lem = tt

pub loss_cases_lem : T (all_right loss_cases)
unfolding rules covers matching reach floor pair_asks acts four_asks asks latest earliest standing first_of offer_on earliest_on fits follows fine loss_cases all_right
loss_cases_lem = tt

pub bank_cases_lem : T (all_right bank_cases)
unfolding is_open_bank some_bank rules covers matching reach floor pair_asks acts four_asks asks latest earliest standing first_of offer_on earliest_on fits follows fine bank_cases all_right
bank_cases_lem = tt
