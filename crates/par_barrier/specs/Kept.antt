-- What the kept value of a barrier is seen as, and what is always true of it.
use Rattle.std.specs.Prelude.{◌≡◌, ℕ, ◌<◌, nat_eq, true, List, Option, refl}
use Rattle.std.specs.Coded.{Coded, code_by, coded×, coded_ℕ, coded_list, coded_option}
use Rattle.std.specs.List.{IsDistinct}
use Rattle.par_barrier.specs.declared.history.BarrierState.{BarrierState}
use Rattle.par_barrier.specs.Parties.{is_among}

-- how many callers there may be, and the state
pub record PartiesView : Type 0 where
  pub callers : ℕ
  pub state : BarrierState

-- the code by which proofs distinguish such values
abbrev pub parties_code : Coded PartiesView
parties_code = code_by (ℕ × (ℕ × (List ℕ × (List ℕ × Option ℕ)))) (coded× coded_ℕ (coded× coded_ℕ (coded× (coded_list coded_ℕ) (coded× (coded_list coded_ℕ) (coded_option coded_ℕ))))) (λ p. (p.callers, (p.state.phase, (p.state.attached, (p.state.arrived, p.state.elected))))) (λ p. record { callers = p.0; state = record { phase = p.1.0; attached = p.1.1.0; arrived = p.1.1.1.0; elected = p.1.1.1.1 } }) (λ _. refl)

-- nobody comes twice in a list, everyone is one of the callers, and a caller that has arrived takes part
pub record AreParties (callers : ℕ) (attached arrived : List ℕ) : Type 0 where
  pub attached_once : IsDistinct nat_eq attached
  pub arrived_once : IsDistinct nat_eq arrived
  pub below : (n : ℕ) → is_among n attached ≡ true → n < callers
  pub within : (n : ℕ) → is_among n arrived ≡ true → is_among n attached ≡ true
