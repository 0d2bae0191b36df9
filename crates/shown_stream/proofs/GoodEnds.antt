-- Why a query that leaves out refused rows has no table, and what is said if it has one, by what was kept of it.
use Rattle.std.proofs.Common.{◌≡◌, ◌≢◌, ◌∙◌, ◌++◌, [], ℕ, List, Option, None, Some, ap, append-nil, inl, inr, refl, subst, sym}
use Rattle.answer_text.specs.Lines.{IsSaid}
use Rattle.answer_text.specs.declared.status.TheConstants.{TABLE}
use Rattle.good_groups.specs.declared.reading.LeftOut.{LeftOut}
use Rattle.good_stream.specs.Good.{TellsOfGood}
use Rattle.good_stream.specs.Said.{left_out_text}
use Rattle.plan_spec.specs.Query.{Query}
use Rattle.shown_stream.specs.Ended.{EndsFor}
use Rattle.shown_stream.specs.Good.{SaysLeftOut}
use Rattle.stream_groups.specs.Lines.{line}
use Rattle.stream_groups.specs.Stops.{stop_says}
use Rattle.stream_groups.specs.declared.stop.Stop.{Stop}
use Rattle.stream_groups.specs.declared.stop.Stop.TheVariants as stop
use Rattle.shown_stream.proofs.Ends.{said_whole}

-- memory may run out at any query
pub good_memory : (asked : Option Query) (from : Option (List ℕ)) → TellsOfGood asked from stop.Memory
good_memory None from = inr refl
good_memory (Some query) from = λ other. tt

-- a write may fail if a query is asked for
good_write : (asked : Option Query) (query : Query) (from : Option (List ℕ)) → asked ≡ Some query → TellsOfGood asked from stop.WriteFault
good_write None query from is = cc is
good_write (Some asked) query from is = λ other. absurd (other refl)

-- what is said of the reason, by its status
abbrev pub GoodReason : Option Query → Option (List ℕ) → ℕ → Option (List ℕ) → Option (List ℕ) → ℕ → ℕ → Type 0
GoodReason asked from status old new before now = (why : Stop) × TellsOfGood asked from why × (status ≡ (stop_says why).0) × IsSaid old new before now (line (stop_says why).1)

-- the reason of a query that was kept is one that it has
pub why_good : (asked : Option Query) (query : Query) (from : Option (List ℕ)) (status ends : ℕ) (start said : List ℕ) (none_yet faults : ℕ) (old new : Option (List ℕ)) (before now : ℕ)
    → asked ≡ Some query → start ≡ [] → none_yet ≡ 0
    → (status ≢ TABLE → GoodReason asked from status (Some start) (Some said) none_yet faults)
    → EndsFor status said faults ends old new before now → GoodReason asked from ends old new before now
why_good asked query from status ends start said none_yet faults old new before now is none zero why (inl short) = (stop.Memory, good_memory asked from, short.0, short.1)
why_good asked query from status ends start said none_yet faults old new before now is none zero why (inr (inl failed)) = (stop.WriteFault, good_write asked query from is, failed.1, failed.2)
why_good asked query from status ends start said none_yet faults old new before now is none zero why (inr (inr told)) =
    let reason = why told.0 in
    let whole = said_whole start said none_yet faults (line (stop_says reason.0).1) none zero told.3 reason.3 in
    (reason.0, reason.1, told.2 ∙ reason.2, subst (λ (text : List ℕ). IsSaid old new before now text) whole told.4)

-- the line that was kept is said
pub says_kept : (left_out : Option LeftOut) (start said : List ℕ) (none_yet faults : ℕ) (old new : Option (List ℕ)) (before now : ℕ) → start ≡ [] → none_yet ≡ 0 → faults ≡ 0
    → SaysLeftOut left_out (Some start) (Some said) none_yet faults → IsSaid old new before now said → SaysLeftOut left_out old new before now
says_kept None start said none_yet faults old new before now none zero fine kept says = tt
says_kept (Some rows) start said none_yet faults old new before now none zero fine kept says =
    subst (λ (text : List ℕ). IsSaid old new before now text) (said_whole start said none_yet faults (line (left_out_text rows)) none zero fine kept) says

-- nothing was said
pub said_none : (taken : Option (List ℕ)) (faults : ℕ) (said : List ℕ) → said ≡ [] → IsSaid taken taken faults faults said
said_none None faults said none = inl tt
said_none (Some bytes) faults said none = inl (sym (append-nil bytes) ∙ ap (λ (t : List ℕ). bytes ++ t) (sym none))
