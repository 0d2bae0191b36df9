-- The maps of the parts, and the rows that wait for them.
use Rattle.std.specs.Prelude.{ℕ, ℤ, List, Option, refl}
use Rattle.std.specs.Coded.{Coded, code_by, coded×, coded_list, coded_option, coded_ℕ, coded_ℤ}
use Rattle.partial_agg.specs.Groups.{GroupsByKey, groups_code}
use Rattle.row_lists.specs.Carried.{Carried}

-- the map of each part, and the lists of each participant: one for each part
pub record HeldParts : Type 0 where
  pub maps : List GroupsByKey
  pub lists : List (List (List Carried))

-- how these are stored, which a model needs
abbrev pub carried_code : Coded Carried
carried_code = code_by (List ℕ × List (Option ℤ)) (coded× (coded_list coded_ℕ) (coded_list (coded_option coded_ℤ))) (λ r. (r.key, r.values)) (λ p. record { key = p.0; values = p.1 }) (λ _. refl)

abbrev pub held_code : Coded HeldParts
held_code = code_by (List GroupsByKey × List (List (List Carried))) (coded× (coded_list groups_code) (coded_list (coded_list (coded_list carried_code)))) (λ h. (h.maps, h.lists)) (λ p. record { maps = p.0; lists = p.1 }) (λ _. refl)
