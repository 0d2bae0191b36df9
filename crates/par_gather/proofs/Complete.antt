-- Without a fault a status is that of the outcome, or there was no memory; and wrong words are no read fault.
use Rattle.std.proofs.Common.{◌≡◌, ◌≢◌, ◌⊎◌, inl, inr, ℕ, List, Option, None, Some, IfSome}
use Rattle.std.proofs.lemmas.Bool.Decides.{eqb_tells}
use Rattle.std.proofs.lemmas.Option.{IfSome_then}
use Rattle.answer_text.specs.declared.status.TheConstants.{NO_MEMORY, READ_FAULT, WRITE_FAULT}
use Rattle.par_gather.specs.Answers.{Answers, IsStatus}
use Rattle.par_gather.specs.Query.{Query, OfTable, OfJoin, OfGen, IsMisuse, input_of}

always : (left : Option (List ℕ)) (P : List ℕ → Type 0) → ((bytes : List ℕ) → P bytes) → IfSome left P
always None P is = tt
always (Some bytes) P is = is bytes

pub complete : (query : Query) (left : Option (List ℕ)) (status : ℕ) (old new : Option (List ℕ)) → Answers query left status old new → (status ≢ READ_FAULT) → (status ≢ WRITE_FAULT)
    → IfSome (input_of query left) (λ bytes. (status ≡ NO_MEMORY) ⊎ IsStatus query bytes status)
complete query left status old new answers read write =
    let P : List ℕ → Type 0 = λ bytes. (status ≡ NO_MEMORY) ⊎ IsStatus query bytes status in
    elim (eqb_tells status 5) [
      | inl memory ↦ always (input_of query left) P (λ bytes. inl memory.1)
      | inr other ↦ IfSome_then (input_of query left) (answers.outcome (record { read = read; write = write; memory = other.1 })) (λ bytes is. inr is)
    ]

-- the status of wrong words tells of no reading
pub misused : (query : Query) (status : ℕ) → IsMisuse query status → status ≢ READ_FAULT
misused (OfTable wanted query) status is e = elim is [ inl usage ↦ cc (usage, e) | inr memory ↦ cc (memory, e) ]
misused (OfJoin words) status is e = cc (is, e)
misused (OfGen words) status is e = cc (is, e)
