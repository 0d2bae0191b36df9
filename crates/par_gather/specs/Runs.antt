-- How what was written was made.
use Rattle.std.specs.Prelude.{◌≡◌, ℕ, List, Option, Some, IfSome}
use Rattle.std.specs.Io.KnownBytes.{Appends}
use Rattle.gen_query.specs.Used.{IsGatheredBy}
use Rattle.join_query.specs.Used.{IsJoinBy}
use Rattle.order_query.specs.Ordered.{IsMergedBy}
use Rattle.group_query.specs.Made.{IsMadeBy}
use Rattle.table_query.specs.declared.wanted.Wanted.TheVariants.{Groups, Order}
use Rattle.answer_text.specs.declared.status.TheConstants.{TABLE}
use Rattle.par_gather.specs.Answers.{Answers, IsText}
use Rattle.par_gather.specs.Query.{Query, OfTable, OfJoin, OfGen, input_of}
use Rattle.par_gather.specs.declared.Ran.{Ran}
use Rattle.par_gather.specs.declared.Ran.TheVariants.{Gather, Merge, Join}

-- the text that answers a query over bytes was made by what is said of the run: groups that workers gathered, rows that
-- they put in order, or pairs that they joined
abbrev pub IsRun : Query → List ℕ → List ℕ → Option Ran → Type 0
IsRun (OfTable Groups query) bytes text (Some (Gather g)) = IsMadeBy query bytes text g
IsRun (OfTable Order query) bytes text (Some (Merge m)) = IsMergedBy query bytes text m
IsRun (OfJoin words) bytes text (Some (Join j)) = IsJoinBy words bytes j
IsRun (OfGen words) bytes text (Some (Gather g)) = IsGatheredBy words g
IsRun query bytes text ran = ⊥

-- a call's sink was given the text that answers its query, and this is how the text was made
abbrev pub IsMade : Query → Option (List ℕ) → Option Ran → Option (List ℕ) → Option (List ℕ) → Type 0
IsMade query left ran old new = IfSome (input_of query left) (λ bytes. (text : List ℕ) × IsText query bytes text × IsRun query bytes text ran × Appends old new text)

-- a call answers a query, and on 0 says how the text was made
pub record AnswersBy (query : Query) (left : Option (List ℕ)) (status : ℕ) (ran : Option Ran) (old new : Option (List ℕ)) : Type 0 where
  pub answers : Answers query left status old new
  pub made : status ≡ TABLE → IsMade query left ran old new
