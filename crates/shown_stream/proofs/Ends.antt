-- Why a query whose table was kept in memory has no table, by how it ended.
use Rattle.std.proofs.Common.{◌≡◌, ◌≢◌, ◌∙◌, ◌⊎◌, ◌++◌, [], ℕ, List, Option, None, Some, IfSome, ap, arith, inl, inr, refl, subst, sym}
use Rattle.std.specs.Prelude.{unwrap_or}
use Rattle.std.specs.Io.KnownBytes.{Appends}
use Rattle.answer_text.specs.Lines.{IsSaid}
use Rattle.answer_text.specs.declared.status.TheConstants.{NO_MEMORY, READ_FAULT, TABLE, WRITE_FAULT}
use Rattle.par_model.specs.Outcome.{Table}
use Rattle.par_stream.specs.Answers.{IsTableText}
use Rattle.plan_spec.specs.Query.{Query}
use Rattle.shown_stream.specs.Ended.{EndsFor}
use Rattle.stream_groups.specs.Lines.{line}
use Rattle.stream_groups.specs.Outcome.{outcome_over}
use Rattle.stream_groups.specs.Stops.{TellsOf, stop_says}
use Rattle.stream_groups.specs.Ways.{of_bytes}
use Rattle.stream_groups.specs.declared.stop.Stop.{Stop}
use Rattle.stream_groups.specs.declared.stop.Stop.TheVariants as stop

-- memory may run out at any query
pub tells_memory : (asked : Option Query) (from : Option (List ℕ)) → TellsOf asked from stop.Memory
tells_memory None from = inr refl
tells_memory (Some query) from = tt

-- what is said of the reason, by its status
abbrev pub Reason : Option Query → Option (List ℕ) → ℕ → Option (List ℕ) → Option (List ℕ) → ℕ → ℕ → Type 0
Reason asked from status old new before now = (why : Stop) × TellsOf asked from why × (status ≡ (stop_says why).0) × IsSaid old new before now (line (stop_says why).1)

-- without a fault all of a line is there
pub said_whole : (start said : List ℕ) (before faults : ℕ) (text : List ℕ) → start ≡ [] → before ≡ 0 → faults ≡ 0 → IsSaid (Some start) (Some said) before faults text → said ≡ text
said_whole start said before faults text none zero fine (inl wrote) = wrote ∙ ap (λ (s : List ℕ). s ++ text) none
said_whole start said before faults text none zero fine (inr rose) = let risen = rose.0 in absurd (omega (arith, zero, fine, risen))

module _ (from : Option (List ℕ)) where
  -- a write of a table fails only if there is a table
  tells_write : (asked : Option Query) (query : Query) (a b : Option (List ℕ)) → asked ≡ Some query → IfSome from (λ bytes. (text : List ℕ) × IsTableText asked bytes text × Appends a b text) → TellsOf asked from stop.WriteFault
  tells_write None query a b is table = cc is
  tells_write (Some asked) query a b is table = tells from table
    where
      tells : (from : Option (List ℕ)) → IfSome from (λ bytes. (text : List ℕ) × IsTableText (Some asked) bytes text × Appends a b text) → IfSome from (λ bytes. outcome_over (of_bytes asked.reading) asked.plan bytes ≡ Table)
      tells None table = tt
      tells (Some bytes) table = ap (λ (o : Option Query). outcome_over (of_bytes (unwrap_or o asked).reading) (unwrap_or o asked).plan bytes) table.1.is ∙ table.1.over.has_table

  -- the reason of a query that was kept is one that it has
  pub why_kept : (asked : Option Query) (query : Query) (a b : Option (List ℕ)) (status ends : ℕ) (start said : List ℕ) (none_yet faults : ℕ) (old new : Option (List ℕ)) (before now : ℕ)
      → asked ≡ Some query → start ≡ [] → none_yet ≡ 0
      → (status ≢ TABLE → Reason asked from status (Some start) (Some said) none_yet faults)
      → (status ≡ TABLE → IfSome from (λ bytes. (text : List ℕ) × IsTableText asked bytes text × Appends a b text))
      → EndsFor status said faults ends old new before now → Reason asked from ends old new before now
  why_kept asked query a b status ends start said none_yet faults old new before now is none zero why table (inl short) = (stop.Memory, tells_memory asked from, short.0, short.1)
  why_kept asked query a b status ends start said none_yet faults old new before now is none zero why table (inr (inl failed)) = (stop.WriteFault, tells_write asked query a b is (table failed.0), failed.1, failed.2)
  why_kept asked query a b status ends start said none_yet faults old new before now is none zero why table (inr (inr told)) =
      let reason = why told.0 in
      let whole = said_whole start said none_yet faults (line (stop_says reason.0).1) none zero told.3 reason.3 in
      (reason.0, reason.1, told.2 ∙ reason.2, subst (λ (text : List ℕ). IsSaid old new before now text) whole told.4)

-- its status is a read fault only if the query's is
pub read_kept : (status : ℕ) (said : List ℕ) (faults ends : ℕ) (old new : Option (List ℕ)) (before now : ℕ) → ends ≡ READ_FAULT → EndsFor status said faults ends old new before now → status ≡ READ_FAULT
read_kept status said faults ends old new before now is (inl short) = let no : NO_MEMORY ≡ READ_FAULT = sym short.0 ∙ is in cc no
read_kept status said faults ends old new before now is (inr (inl failed)) = let no : WRITE_FAULT ≡ READ_FAULT = sym failed.1 ∙ is in cc no
read_kept status said faults ends old new before now is (inr (inr told)) = sym told.2 ∙ is

-- a table that could not be written or put in order ended for a reason of its own
pub ends_unwritten : (why : Stop) (status : ℕ) (said : List ℕ) (faults ends : ℕ) (old new : Option (List ℕ)) (before now : ℕ) → status ≡ TABLE → (why ≡ stop.WriteFault) ⊎ (why ≡ stop.Memory)
    → ends ≡ (stop_says why).0 → IsSaid old new before now (line (stop_says why).1) → EndsFor status said faults ends old new before now
ends_unwritten why status said faults ends old new before now table (inl write) is says =
    inr (inl (table, is ∙ ap (λ (w : Stop). (stop_says w).0) write, subst (λ (w : Stop). IsSaid old new before now (line (stop_says w).1)) write says))
ends_unwritten why status said faults ends old new before now table (inr memory) is says =
    inl (is ∙ ap (λ (w : Stop). (stop_says w).0) memory, subst (λ (w : Stop). IsSaid old new before now (line (stop_says w).1)) memory says)
