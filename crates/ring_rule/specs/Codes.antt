-- The codes by which proofs distinguish the values of the ends.
use Rattle.std.specs.Prelude.{ℕ, Bool, List, refl}
use Rattle.std.specs.Coded.{Coded, code_by, coded×, coded_ℕ, coded_bool, coded_list}
use Rattle.ring_rule.specs.Ring.{Ring, Sending, Receiving}

-- the code of rings
abbrev pub ring_code : Coded Ring
ring_code = code_by (ℕ × (ℕ × (ℕ × ℕ))) (coded× coded_ℕ (coded× coded_ℕ (coded× coded_ℕ coded_ℕ)))
    (λ r. (r.base, (r.size, (r.start, r.max)))) (λ p. record { base = p.0; size = p.1.0; start = p.1.1.0; max = p.1.1.1 }) (λ _. refl)

-- the six numbers of an end
abbrev Six : Type 0
Six = ℕ × (ℕ × (ℕ × (ℕ × (ℕ × ℕ))))

-- and their code
abbrev six : Coded Six
six = coded× coded_ℕ (coded× coded_ℕ (coded× coded_ℕ (coded× coded_ℕ (coded× coded_ℕ coded_ℕ))))

-- the code of a sender's end, as the tuple of its fields
abbrev pub sending_code : Coded Sending
sending_code = code_by (Ring × (List ℕ × (List ℕ × (Bool × (Bool × (ℕ × (ℕ × Six)))))))
    (coded× ring_code (coded× (coded_list coded_ℕ) (coded× (coded_list coded_ℕ) (coded× coded_bool (coded× coded_bool (coded× coded_ℕ (coded× coded_ℕ six)))))))
    (λ s. (s.ring, (s.cells, (s.put, (s.gone, (s.looked_full, (s.published, (s.room, (s.turn, (s.looked, (s.looked_put, (s.flag_loads, (s.flag_turn, s.flag_value)))))))))))))
    (λ p. record {
      ring = p.0;
      cells = p.1.0;
      put = p.1.1.0;
      published = p.1.1.1.1.1.0;
      room = p.1.1.1.1.1.1.0;
      gone = p.1.1.1.0;
      turn = p.1.1.1.1.1.1.1.0;
      looked = p.1.1.1.1.1.1.1.1.0;
      looked_put = p.1.1.1.1.1.1.1.1.1.0;
      looked_full = p.1.1.1.1.0;
      flag_loads = p.1.1.1.1.1.1.1.1.1.1.0;
      flag_turn = p.1.1.1.1.1.1.1.1.1.1.1.0;
      flag_value = p.1.1.1.1.1.1.1.1.1.1.1.1;
    })
    (λ _. refl)

-- the code of a receiver's end
abbrev pub receiving_code : Coded Receiving
receiving_code = code_by (Ring × (List ℕ × (Bool × (Bool × (Bool × Six)))))
    (coded× ring_code (coded× (coded_list coded_ℕ) (coded× coded_bool (coded× coded_bool (coded× coded_bool six)))))
    (λ q. (q.ring, (q.taken, (q.gone, (q.final, (q.looked_empty, (q.returned, (q.avail, (q.turn, (q.looked, (q.flag_turn, q.flag_value)))))))))))
    (λ p. record {
      ring = p.0;
      taken = p.1.0;
      returned = p.1.1.1.1.1.0;
      avail = p.1.1.1.1.1.1.0;
      gone = p.1.1.0;
      turn = p.1.1.1.1.1.1.1.0;
      final = p.1.1.1.0;
      looked = p.1.1.1.1.1.1.1.1.0;
      looked_empty = p.1.1.1.1.0;
      flag_turn = p.1.1.1.1.1.1.1.1.1.0;
      flag_value = p.1.1.1.1.1.1.1.1.1.1;
    })
    (λ _. refl)
