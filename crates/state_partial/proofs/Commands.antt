-- The command of the words of `partial`, and what its words ask for.
use Rattle.std.proofs.Common.{◌≡◌, ◌∙◌, ◌++◌, ℕ, List, None, Some, ap, codes, false, map, refl, sym, true}
use Rattle.std.proofs.lemmas.List.Folds.{list_all-map}
use Rattle.std.specs.Borrow.{Bor}
use Rattle.std.specs.List.{list_all}
use Rattle.std.specs.Prelude.{Bool}
use Rattle.clap.proofs.OnLiterals.{clap_on_literals}
use Rattle.clap.specs.Walk.{Row}
use Rattle.clap.specs.Words.{first_of, is_simple_and_free, matches_of}
use Rattle.plan_spec.specs.Options.{is_command_line}
use Rattle.plan_spec.specs.Query.{text_of}
use Rattle.state_partial.specs.Words.{asked_by_rows, asked_in, filters_in, filters_of, given_by, may_be_filter, partial_command, reading_of, where_texts}
use Rattle.state_partial.specs.declared.words.Given.{Given}

-- clap states its matches and its faults in full
pub partial_is_free : is_simple_and_free partial_command ≡ true
unfolding clap_on_literals
partial_is_free = refl

-- the texts of values
pub all_filters : (values : List (Bor (List ℕ))) → list_all may_be_filter (map (λ value. value.now) values) ≡ list_all (λ value. may_be_filter value.now) values
all_filters values = list_all-map may_be_filter (λ (value : Bor (List ℕ)). value.now) values

-- ---- what the words ask for

module _ (words : List (List ℕ)) where
  pub asked_none : is_command_line partial_command words ≡ false → None ≡ asked_in words
  unfolding asked_in
  asked_none refuses = rw refuses refl

  pub asked_some : is_command_line partial_command words ≡ true → asked_by_rows (matches_of partial_command words) ≡ asked_in words
  unfolding asked_in
  asked_some takes = rw takes refl

-- ---- what rows ask for

module _ (rows : List Row) where
  pub no_filters : None ≡ filters_in rows → None ≡ asked_by_rows rows
  no_filters none = rw (← none) refl

  pub values_are : (g : Given) → Some g.filters.items ≡ filters_in rows → text_of g.group ≡ first_of (codes "group") rows → text_of g.agg ≡ first_of (codes "agg") rows
      → text_of g.decimals ≡ first_of (codes "decimals") rows → text_of g.workers ≡ first_of (codes "workers") rows → text_of g.source ≡ first_of (codes "source") rows
      → text_of g.bytes ≡ first_of (codes "bytes") rows → text_of g.size ≡ first_of (codes "size") rows → given_by g ≡ asked_by_rows rows
  values_are g filters group agg decimals workers source bytes size = rw (← filters, group, agg, decimals, workers, source, bytes, size) refl

  -- a text that can be no filter
  pub wrong_filter : (texts : List (List ℕ)) (are : Bool) → texts ≡ where_texts rows → are ≡ list_all may_be_filter texts → are ≡ false → None ≡ filters_in rows
  wrong_filter texts are is same not_all = let none : list_all may_be_filter (where_texts rows) ≡ false = ap (list_all may_be_filter) (sym is) ∙ (sym same ∙ not_all) in rw none refl

  -- texts that may all be filters, and how fields are read
  pub right_filters : (texts : List (List ℕ)) (are : Bool) (bytes : List ℕ) → texts ≡ where_texts rows → are ≡ list_all may_be_filter texts → are ≡ true
      → bytes ≡ filters_of (where_texts rows) ++ filters_of (reading_of rows) → Some bytes ≡ filters_in rows
  right_filters texts are bytes is same each all = let right : list_all may_be_filter (where_texts rows) ≡ true = ap (list_all may_be_filter) (sym is) ∙ (sym same ∙ each) in rw (right, all) refl
