-- Joins: what their ends answer.
use Rattle.std.proofs.Common.{◌≡◌, ◌≢◌, ℕ, List, Option, None, Some, IfSome, refl, take}
use Rattle.std.specs.Prelude.{IsNone}
use Rattle.std.proofs.lemmas.Option.{IfSome_then}
use Rattle.std.specs.Io.KnownBytes.{Appends}
use Rattle.row_blocks.specs.Blocks.{Table}
use Rattle.hash_join.specs.declared.Joined.{Joined}
use Rattle.join_query.specs.Lines.{IsNoFault, IsStatus}
use Rattle.join_query.specs.Lines as lines
use Rattle.join_query.specs.Outcome.{IsOutcome, Joins}
use Rattle.join_query.specs.Used.{IsJoinBy}
use Rattle.join_query.specs.Words.{Asked}
use Rattle.par_model.specs.Table.{table_text}
use Rattle.answer_text.specs.declared.status.TheConstants.{MISUSED, TABLE, WRITE_FAULT}
use Rattle.par_gather.specs.Answers.{IsLine, IsText}
use Rattle.par_gather.specs.Query.{OfJoin}
use Rattle.par_gather.specs.Runs.{AnswersBy, IsRun}
use Rattle.par_gather.specs.declared.Ran.{Ran}
use Rattle.par_gather.specs.declared.Ran.TheVariants as ran

module _ (asked : Option Asked) (left old new : Option (List ℕ)) where
  -- an end with a text
  whole : (here : Option (List ℕ)) (j : Joined) → IfSome here (λ bytes. (records : Table) × IsOutcome asked bytes (Joins records) × Appends old new (table_text records)) → IfSome here (λ bytes. IsJoinBy asked bytes j)
      → IfSome here (λ bytes. (text : List ℕ) × IsText (OfJoin asked) bytes text × IsRun (OfJoin asked) bytes text (Some (ran.Join j)) × Appends old new text)
  whole None j records by = tt
  whole (Some bytes) j records by = (table_text records.0, (records.0, records.1, refl), by, records.2)

  pub answered : (j : Joined) → (IsNoFault TABLE → IfSome left (λ bytes. IsStatus asked bytes TABLE)) → (IsNone asked → TABLE ≡ MISUSED)
      → IfSome left (λ bytes. (records : Table) × IsOutcome asked bytes (Joins records) × Appends old new (table_text records)) → IfSome left (λ bytes. IsJoinBy asked bytes j)
      → AnswersBy (OfJoin asked) left TABLE (Some (ran.Join j)) old new
  answered j outcome misuse records by = record {
    answers = record {
      outcome = outcome;
      misuse = misuse;
      whole = λ _. IfSome_then left (whole left j records by) (λ bytes t. (t.0, t.1, t.3));
      part = λ e. cc e;
    };
    made = λ _. whole left j records by;
  }

  -- an end with another status
  pub stopped : (status : ℕ) (told : Option Ran) → status ≢ TABLE → (IsNoFault status → IfSome left (λ bytes. IsStatus asked bytes status)) → (IsNone asked → status ≡ MISUSED)
      → (status ≡ WRITE_FAULT → IfSome left (λ bytes. (records : Table) × IsOutcome asked bytes (Joins records) × (n : ℕ) × Appends old new (take n (table_text records))))
      → AnswersBy (OfJoin asked) left status told old new
  stopped status told failed outcome misuse part = record {
    answers = record {
      outcome = outcome;
      misuse = misuse;
      whole = λ is. absurd (failed is);
      part = λ is. IfSome_then left (part is) (λ bytes records. (table_text records.0, (records.0, records.1, refl), records.2, records.3));
    };
    made = λ is. absurd (failed is);
  }

-- a line
pub said : (asked : Option Asked) (left : Option (List ℕ)) (status : ℕ) (text : List ℕ) → lines.IsLine asked left status text → IsLine (OfJoin asked) left status text
said asked left status text is = record { of_status = is; usage = λ none _. is.usage none; first = λ _. tt }
