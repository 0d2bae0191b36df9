-- Queries over one table: what their ends answer.
use Rattle.std.proofs.Common.{◌≡◌, ◌⊎◌, inl, inr, ℕ, List, Option, Some, IfSome, ap, arith, refl, sym, take}
use Rattle.std.specs.Prelude.{IsNone}
use Rattle.std.proofs.lemmas.Option.{IfSome_then}
use Rattle.std.specs.Io.KnownBytes.{Appends}
use Rattle.join_query.specs.Lines.{IsNoFault}
use Rattle.par_model.specs.Outcome.{Table}
use Rattle.plan_spec.specs.Query.{Query}
use Rattle.answer_text.specs.Lines.{line}
use Rattle.answer_text.specs.declared.status.TheConstants.{MISUSED, TABLE}
use Rattle.table_query.specs.Answers.{outcome_over, status_of}
use Rattle.table_query.specs.Asked.{plan_in, workers_in}
use Rattle.table_query.specs.Stops.{IsExplained, IsFirstStop, stop_status, stop_text}
use Rattle.table_query.specs.declared.stop.Stop.{Stop}
use Rattle.table_query.specs.declared.stop.Stop.TheVariants as stop
use Rattle.table_query.specs.declared.wanted.Wanted.{Wanted}
use Rattle.table_query.specs.declared.wanted.Wanted.TheVariants.{Groups, Order}
use Rattle.table_query.proofs.Statuses.{is_write_fault, line_first, line_outcome, never_table, outcome_told}
use Rattle.par_gather.specs.Answers.{IsLine, IsText}
use Rattle.par_gather.specs.Query.{OfTable}
use Rattle.par_gather.specs.Runs.{AnswersBy, IsRun}
use Rattle.par_gather.specs.declared.Ran.{Ran}

-- where there is a text, the outcome is a table
has_table : (wanted : Wanted) (query : Option Query) (bytes text : List ℕ) → IsText (OfTable wanted query) bytes text → outcome_over (plan_in query) bytes ≡ Table
has_table Groups query bytes text is = is.has_table
has_table Order query bytes text is = is.has_table

module _ (wanted : Wanted) (query : Option Query) (left : Option (List ℕ)) (ran : Option Ran) (old new : Option (List ℕ)) where
  told : IfSome left (λ bytes. (text : List ℕ) × IsText (OfTable wanted query) bytes text × IsRun (OfTable wanted query) bytes text ran × Appends old new text)
      → IfSome left (λ bytes. TABLE ≡ status_of (outcome_over (plan_in query) bytes))
  told is = IfSome_then left is (λ bytes t. sym (ap status_of (has_table wanted query bytes t.0 t.1)))

  -- an end with a text
  pub answered : (IsNone (plan_in query) → ⊥) → IfSome left (λ bytes. (text : List ℕ) × IsText (OfTable wanted query) bytes text × IsRun (OfTable wanted query) bytes text ran × Appends old new text)
      → AnswersBy (OfTable wanted query) left TABLE ran old new
  answered right is = record {
    answers = record {
      outcome = λ _. told is;
      misuse = λ none. absurd (right none);
      whole = λ _. IfSome_then left is (λ bytes t. (t.0, t.1, t.3));
      part = λ e. cc e;
    };
    made = λ _. is;
  }

module _ (wanted : Wanted) (query : Option Query) (left : Option (List ℕ)) (why : Stop) (explained : IsExplained (plan_in query) left why)
    (no_plan : IsNone (plan_in query) → (why ≡ stop.Usage) ⊎ (why ≡ stop.Memory)) where
  -- an end for a reason
  pub stopped : (ran : Option Ran) (old new : Option (List ℕ))
      → (why ≡ stop.WriteFault → IfSome left (λ bytes. (text : List ℕ) × IsText (OfTable wanted query) bytes text × (n : ℕ) × Appends old new (take n text)))
      → AnswersBy (OfTable wanted query) left (stop_status why) ran old new
  stopped ran old new part = record {
    answers = record {
      outcome = λ (fine : IsNoFault (stop_status why)). IfSome_then left (outcome_told (plan_in query) left why (stop_status why) explained refl) (λ bytes is. is fine.read fine.write fine.memory);
      misuse = λ none. elim (no_plan none) [ inl usage ↦ inl (ap stop_status usage) | inr memory ↦ inr (ap stop_status memory) ];
      whole = λ is. absurd (never_table why is);
      part = λ is. part (is_write_fault why is);
    };
    made = λ is. absurd (never_table why is);
  }

  wrong_words : IsNone (plan_in query) → stop_status why ≡ MISUSED → line (stop_text wanted why) ≡ line (stop_text wanted stop.Usage)
  wrong_words none misused = elim (no_plan none) [
    | inl usage ↦ ap (λ (w : Stop). line (stop_text wanted w)) usage
    | inr memory ↦ let five : stop_status why ≡ 5 = ap stop_status memory in absurd (omega (arith, misused, five))
  ]

  -- its line
  pub said : (workers_in query ≡ Some 0 → IfSome left (λ bytes. IsFirstStop (plan_in query) why (outcome_over (plan_in query) bytes))) → IsLine (OfTable wanted query) left (stop_status why) (line (stop_text wanted why))
  said first = record {
    of_status = line_outcome wanted (plan_in query) left why explained;
    usage = wrong_words;
    first = λ refused none. line_first wanted (plan_in query) left why (first none) refused;
  }
