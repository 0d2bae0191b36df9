-- Generated rows: what their ends answer.
use Rattle.std.proofs.Common.{[], ◌≡◌, ◌≢◌, ◌∙◌, ℕ, List, Option, None, Some, Result, Err, ap, refl, sym}
use Rattle.std.specs.Prelude.{IsNone}
use Rattle.gather_run.specs.declared.Gathered.{Gathered}
use Rattle.gen_query.specs.Summary.{IsAnswered, IsBegun}
use Rattle.gen_query.specs.Used.{IsGatheredBy}
use Rattle.gen_query.specs.Words.{Asked}
use Rattle.gen_query.specs.declared.GenAnswer.{GenAnswer}
use Rattle.gen_query.specs.declared.GenAnswer.TheVariants as generating
use Rattle.join_query.specs.Lines.{IsNoFault}
use Rattle.answer_text.specs.Lines.{line}
use Rattle.answer_text.specs.declared.status.TheConstants.{MISUSED, READ_FAULT, TABLE, WRITE_FAULT}
use Rattle.table_query.specs.Asked.{usage_text}
use Rattle.table_query.specs.Stops.{stop_status, stop_text}
use Rattle.table_query.specs.declared.wanted.Wanted.TheVariants.{Groups}
use Rattle.par_gather.specs.Answers.{IsLine, IsStatus, gen_text, stop_of_gen}
use Rattle.par_gather.specs.Runs.{AnswersBy}
use Rattle.par_gather.specs.Query.{OfGen}
use Rattle.par_gather.specs.declared.Ran.{Ran}
use Rattle.par_gather.specs.declared.Ran.TheVariants as ran

-- an equation with its type written out
abbrev pub IsSame : {A : Type 0} → A → A → Type 0
IsSame a b = a ≡ b

right : (asked : Option Asked) (bytes : List ℕ) → (IsNone asked → ⊥) → IsStatus (OfGen asked) bytes TABLE
right None bytes some = absurd (some refl)
right (Some asked) bytes some = refl

wrong : (asked : Option Asked) (bytes : List ℕ) → IsNone asked → IsStatus (OfGen asked) bytes MISUSED
wrong None bytes none = refl
wrong (Some asked) bytes none = cc none

pub is_write_fault : (why : GenAnswer) → stop_status (stop_of_gen why) ≡ WRITE_FAULT → why ≡ generating.WriteFault
is_write_fault generating.Usage is = cc is
is_write_fault generating.WriteFault is = refl
is_write_fault generating.Memory is = cc is

-- an answer in a result
pub failed : {T : Type 0} (why is : GenAnswer) → why ≡ is → IsSame {A = Result T GenAnswer} (Err why) (Err is)
failed why is e = ap Err e

module _ (asked : Option Asked) (left old new : Option (List ℕ)) where
  -- an end with a text
  pub answered : (g : Gathered) → (IsNone asked → ⊥) → IsAnswered asked old new → IsGatheredBy asked g → AnswersBy (OfGen asked) left TABLE (Some (ran.Gather g)) old new
  answered g some text by = record {
    answers = record {
      outcome = λ _. right asked [] some;
      misuse = λ none. absurd (some none);
      whole = λ _. (text.0, text.1, text.2);
      part = λ e. cc e;
    };
    made = λ _. (text.0, text.1, by, text.2);
  }

  outcome : (why : GenAnswer) → (why ≡ generating.Usage → IsNone asked) → IsNoFault (stop_status (stop_of_gen why)) → IsStatus (OfGen asked) [] (stop_status (stop_of_gen why))
  outcome generating.Usage none fine = wrong asked [] (none refl)
  outcome generating.WriteFault none fine = absurd (fine.write refl)
  outcome generating.Memory none fine = absurd (fine.memory refl)

  never_table : (why : GenAnswer) → stop_status (stop_of_gen why) ≢ TABLE
  never_table generating.Usage is = cc is
  never_table generating.WriteFault is = cc is
  never_table generating.Memory is = cc is

  -- an end for a reason
  pub stopped : (why : GenAnswer) (told : Option Ran) → (why ≡ generating.Usage → IsNone asked) → (IsNone asked → why ≡ generating.Usage) → (why ≡ generating.WriteFault → IsBegun asked old new)
      → AnswersBy (OfGen asked) left (stop_status (stop_of_gen why)) told old new
  stopped why told none usage part = record {
    answers = record {
      outcome = outcome why none;
      misuse = λ n. ap (λ (w : GenAnswer). stop_status (stop_of_gen w)) (usage n);
      whole = λ is. absurd (never_table why is);
      part = λ is. part (is_write_fault why is);
    };
    made = λ is. absurd (never_table why is);
  }

pub never_read : (why : GenAnswer) → stop_status (stop_of_gen why) ≢ READ_FAULT
never_read generating.Usage is = cc is
never_read generating.WriteFault is = cc is
never_read generating.Memory is = cc is

says : (why : GenAnswer) → gen_text (stop_status (stop_of_gen why)) ≡ stop_text Groups (stop_of_gen why)
says generating.Usage = refl
says generating.WriteFault = refl
says generating.Memory = refl

usage_is : (status : ℕ) → status ≡ MISUSED → gen_text status ≡ usage_text
usage_is status is = ap gen_text is

-- its line
pub said : (asked : Option Asked) (left : Option (List ℕ)) (why : GenAnswer) → IsLine (OfGen asked) left (stop_status (stop_of_gen why)) (line (stop_text Groups (stop_of_gen why)))
said asked left why = record {
  of_status = ap line (sym (says why));
  usage = λ _ misused. ap line (sym (says why) ∙ usage_is (stop_status (stop_of_gen why)) misused);
  first = λ _. tt;
}
