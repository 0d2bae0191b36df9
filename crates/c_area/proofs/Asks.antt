-- An ask of the area under its lock, by what its shelf opened with.
use Rattle.std.proofs.Common.{◌≡◌, ℕ, ◌+◌, ◌-◌, ◌<◌, ◌≤◌, ◌^◌, ◌⊎◌, inl, inr, Option, Some, None, List, [], ◌∷◌, Result, Ok, Err, IfOk, IfErr, refl, sym, ap, subst, ◌∙◌, arith}
use mathlib.Core.Option.{some, some-injective}
use lib.ListN.{get_elem?}
use Rattle.std_alloc.specs.Arc.{arc_value}
use Rattle.lock_book.specs.Shown.{opens_of}
use Rattle.c_area.specs.Arenas.{name_in}
use Rattle.c_area.specs.Asked.{AnswerFits, AskFits}
use Rattle.c_area.specs.Shares.{IsShared}
use Rattle.c_area.specs.States.{AreaState}
use Rattle.c_area.specs.declared.histories.AreaName.{AreaName}
use Rattle.c_area.specs.declared.locked.AreaAsk.{AreaAsk}
use Rattle.c_area.specs.declared.locked.AreaAnswer.{AreaAnswer}
use Rattle.c_area.specs.declared.shared.Shared.{Shared}

-- the area stands at place 0 of its shelf
pub area_there : (x : Shared) (w : IsShared x) → get_elem? (opens_of x.shelf) 0 ≡ some (name_in x.region x.pages, w.state)
area_there x w = ap (λ (l : List (AreaName × AreaState)). get_elem? l 0) w.opens

-- an ask that fits the area may be made
pub may_ask : (x : Shared) (w : IsShared x) (ask : AreaAsk) → AskFits (name_in x.region x.pages) ask → (o : AreaName × AreaState) → get_elem? (opens_of x.shelf) 0 ≡ some o → (x.region ≡ o.0.region) × AskFits o.0 ask
may_ask x w ask fits o at =
    let same : ◌≡◌ {A = AreaName × AreaState} (name_in x.region x.pages, w.state) o = some-injective _ o (sym (area_there x w) ∙ at) in
    subst (λ (z : AreaName × AreaState). (x.region ≡ z.0.region) × AskFits z.0 ask) same (refl, fits)

-- its answer fits, too
pub is_answer : (x : Shared) (w : IsShared x) (ask : AreaAsk) (a : AreaAnswer) → ((o : AreaName × AreaState) → get_elem? (opens_of x.shelf) 0 ≡ some o → AnswerFits o.0 ask a) → AnswerFits (name_in x.region x.pages) ask a
is_answer x w ask a f = f (name_in x.region x.pages, w.state) (area_there x w)

pub fits_if : {E : Type 0} (x : Shared) (w : IsShared x) (ask : AreaAsk) (r : Result AreaAnswer E) → IfOk r (λ a. (o : AreaName × AreaState) → get_elem? (opens_of x.shelf) 0 ≡ some o → AnswerFits o.0 ask a) → IfOk r (λ a. AnswerFits (name_in x.region x.pages) ask a)
fits_if x w ask (Ok a) f = is_answer x w ask a f
fits_if x w ask (Err e) f = tt
