-- `blank` owns nothing.
use mathlib.Core.Path.{refl}
use mathlib.Core.List.{[], ◌∷◌}
use base.Fml.{ftrue}
use contract.Running.{tables}
use types.Kit.{‵, raw, ◌⊛◌, ◌$◌, ◌∵◌, !, qed, keep, split, join, suffices, done}
use types.Part.{agg}
use types.Run.{lit, no_more, and_then, returns, enter}
use types.ByLocal.{alloc_all, pass_all, free_all, look_at, sets}
use denote.RawPtr.{null_ptr, ptr_val}
use denote.Steps.{nothing}
use denote.Triple.Entry.{alive}
use denote.Triple.Walked.{walk_of, says, ends_at}
use Rattle.std.specs.Prelude.{None}
use Rattle.std.proofs.raw_atomic.Walks.{proved}
use Rattle.c_table.proofs.Owned.{words}
use Rattle.c_records.proofs.Owned.{words_good, few, handle_in}
use Rattle.c_records.specs.contracts.handle.Handle as Handle
use Rattle.c_records.specs.contracts.handle.Handle.blank.{ended, clauses}
use Rattle.c_records.specs.contracts.handle.Handle.blank.Key.{name as #self}
use Rattle.c_records.proofs.handle.Handle.blank.Statement.{statement}
use Rattle.c_records.proofs.handle.Handle.blank.Code as code

pub blank_spec : {M : Type 1} → statement M
blank_spec 𝓤 𝓛 𝓜 𝓡 wired =
    let H = 𝓛.H in let 𝓣 = tables 𝓤 H 𝓜 𝓡 𝓡.env in let c = clauses 𝓛 𝓜.mem 𝓡.returns in
    proved 𝓛 ended tt c 𝓜 𝓡 tt #self code.function (code.unfolded 𝓤 H 𝓜 𝓡 wired) (λ κs. tt) (λ κs. tt) (λ κs qs bounds a gh are.
    let y : (walk_of 𝓛 ended tt c).Ghost = ((κs, qs, bounds, a, tt), gh) in
    let made : Handle.the_row.Denot = record { at = null_ptr; full = 0; value = None; tag = refl } in let w = words (ptr_val null_ptr) 0 in
    qed 𝓛 ((raw (alive 𝓛 ended.signature κs qs) ⊛ ‵ ftrue) ∷ raw ((c κs a).requires gh) ∷ []) ∵ split ! $ keep ! (0 ∷ []) $
    enter ! 𝓣.C 𝓣.Λ code.function [] ((walk_of 𝓛 ended tt c).post y) $ alloc_all ! (λ l. pass_all ! refl tt $
    sets ! (agg ! (and_then ! (lit ! tt) (and_then ! (lit ! tt) (no_more !)))) refl (words_good 𝓛 null_ptr 0 (few made)) $
    nothing ! $ handle_in ! made $ nothing ! $
    returns ! (look_at ! 0 refl) $ free_all ! refl $ keep ! (1 ∷ []) $
    suffices ! _ (ends_at 𝓛 ended tt c y w made tt tt) $ says ! refl $ nothing ! $ join ! $ nothing ! $ join ! $ done !))
