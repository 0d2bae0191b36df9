-- The texts of ranges, one after another, are the table.
use Rattle.std.proofs.Common.{◌≡◌, ◌<◌, ◌++◌, ◌==◌, ◌∙◌, ℕ, zero, suc, Bool, false, List, [], ◌∷◌, None, Option, ap, append-nil, append_assoc, arith, cond, get_or, length, refl, subst, sym}
use Rattle.std.specs.FinMap as map
use Rattle.std.specs.List.{AllZip, concat}
use Rattle.par_model.specs.Named.{NamedPlan}
use Rattle.par_model.specs.Outcome.{IsAnswer}
use Rattle.par_model.specs.Plan.{Plan}
use Rattle.par_model.specs.declared.state.AggState.{AggState}
use Rattle.partial_agg.specs.Groups.{AreGroups, GroupsByKey}
use Rattle.partial_agg.specs.Listed.{listed}
use Rattle.result_text.specs.PartTexts.{IsPartText}
use Rattle.result_text.specs.Text.{AreLinesOf}
use Rattle.result_text.proofs.PartTexts.{parts_answer}
use Rattle.state_head.specs.Words.{Keys}
use Rattle.state_order.specs.Ranges.{AreWithin, is_open}
use Rattle.state_range.specs.Ranges.{IsTextWithin, RangesAnswer, RiseFrom, header_before, ranges_from}
use Rattle.state_range.proofs.Between.{in_part, part_low, part_of, rises}

module _ (names : NamedPlan) (plan : Plan) (m : GroupsByKey) where
  abbrev Fits : Keys → List ℕ → Type 0
  Fits range text = IsTextWithin names plan range m text

  -- the lines of each range, without the header
  lines_in : (ranges : List Keys) (texts : List (List ℕ)) → AllZip Fits ranges texts → List (List ℕ)
  lines_in [] [] all = []
  lines_in [] (text ∷ texts) all = absurd all
  lines_in (range ∷ ranges) [] all = absurd all
  lines_in (range ∷ ranges) (text ∷ texts) all = all.0.is_text.lines ∷ lines_in ranges texts all.1

  length-lines : (ranges : List Keys) (texts : List (List ℕ)) (all : AllZip Fits ranges texts) → length (lines_in ranges texts all) ≡ length ranges
  unfolding lines_in
  length-lines [] [] all = refl
  length-lines [] (text ∷ texts) all = absurd all
  length-lines (range ∷ ranges) [] all = absurd all
  length-lines (range ∷ ranges) (text ∷ texts) all = ap suc (length-lines ranges texts all.1)

  record AreWithinLines (range : Keys) (lines : List ℕ) : Type 0 where
    groups : GroupsByKey
    are_within : AreWithin (length plan.groups) range m groups
    are_lines : AreLinesOf plan (listed groups) lines

  lines_at : (ranges : List Keys) (texts : List (List ℕ)) (all : AllZip Fits ranges texts) (k : ℕ) (d : Keys) (e : List ℕ) → k < length ranges → AreWithinLines (get_or ranges k d) (get_or (lines_in ranges texts all) k e)
  unfolding lines_in
  lines_at [] texts all k d e lt = absurd (omega (arith, lt))
  lines_at (range ∷ ranges) [] all k d e lt = absurd all
  lines_at (range ∷ ranges) (text ∷ texts) all zero d e lt = record { groups = all.0.groups; are_within = all.0.are_within; are_lines = all.0.is_text.are_lines }
  lines_at (range ∷ ranges) (text ∷ texts) all (suc k) d e lt = lines_at ranges texts all.1 k d e (omega (arith, lt))

  no_header : (cut : List ℕ) → is_open cut ≡ false → header_before names cut ≡ []
  no_header [] e = cc
  no_header (byte ∷ cut) e = refl

  all_lines : (n : ℕ) (low : List ℕ) (cuts texts : List (List ℕ)) (all : AllZip Fits (ranges_from low cuts) texts) → RiseFrom n low cuts → concat texts ≡ header_before names low ++ concat (lines_in (ranges_from low cuts) texts all)
  unfolding lines_in
  all_lines n low [] [] all rise = absurd all
  all_lines n low [] (text ∷ []) all rise = append-nil text ∙ all.0.is_text.is ∙ ap (λ (t : List ℕ). header_before names low ++ t) (sym (append-nil all.0.is_text.lines))
  all_lines n low [] (text ∷ more ∷ texts) all rise = absurd all.1
  all_lines n low (cut ∷ cuts) [] all rise = absurd all
  all_lines n low (cut ∷ cuts) (text ∷ texts) all rise =
      let rest = all_lines n cut cuts texts all.1 rise.2 in
      let later = lines_in (ranges_from cut cuts) texts all.1 in
      let no : header_before names cut ++ concat later ≡ concat later = ap (λ (h : List ℕ). h ++ concat later) (no_header cut rise.0) in
      ap (λ (t : List ℕ). t ++ concat texts) all.0.is_text.is ∙ ap (λ (t : List ℕ). (header_before names low ++ all.0.is_text.lines) ++ t) (rest ∙ no) ∙ append_assoc (header_before names low) all.0.is_text.lines (concat later)

pub ranges_answer : RangesAnswer
ranges_answer names plan header rows m cuts texts is some are rise all =
    let n = length plan.groups in
    let ranges = ranges_from [] cuts in
    let lines = lines_in names plan m ranges texts all in
    let many : length lines ≡ length ranges = length-lines names plan m ranges texts all in
    let no_keys : Keys = record { low = []; high = [] } in
    let answer = parts_answer names plan header rows (part_of n cuts) lines is some (rises n cuts) (λ key. omega (arith, many, part_low n [] cuts key))
    (λ k e lt. one_part names plan m rows cuts (get_or lines k e) k no_keys are rise (omega (arith, lt, many)) (lines_at names plan m ranges texts all k no_keys e (omega (arith, lt, many)))) in
    subst (λ (t : List ℕ). IsAnswer names (header ∷ rows) t) (sym (all_lines names plan m n [] cuts texts all rise)) answer
  where
    one_part : (names : NamedPlan) (plan : Plan) (m : GroupsByKey) (rows : List (List (List ℕ))) (cuts : List (List ℕ)) (lines : List ℕ) (k : ℕ) (d : Keys) → AreGroups plan rows m → RiseFrom (length plan.groups) [] cuts → k < length (ranges_from [] cuts)
        → AreWithinLines names plan m (get_or (ranges_from [] cuts) k d) lines → IsPartText plan rows (part_of (length plan.groups) cuts) k lines
    one_part names plan m rows cuts lines k d are rise lt here = record {
      groups = here.groups;
      are = record {
        each = λ key.
            here.are_within.each key
            ∙ ap (λ (b : Bool). cond b (map.get m key) None) (sym (in_part (length plan.groups) [] cuts key k d rise refl lt))
            ∙ ap (λ (o : Option AggState). cond (part_of (length plan.groups) cuts key == k) o None) (are.each key);
      };
      lines = here.are_lines;
    }
