-- A source of which the first bytes may have been read already.
use Rattle.std.specs.Prelude.{◌≡◌, ◌⊎◌, ℕ, List, Option, length}
use Rattle.std.specs.Io.KnownBytes.{IsAtEnd, prepend_known}
use Rattle.input_hints.specs.declared.peeked.Peeked.{Peeked}

-- what is left: the bytes that were read and not given yet, and then what the source under it has left
abbrev pub peeked_left : {S : Type 0} → (S → Option (List ℕ)) → Peeked S → Option (List ℕ)
peeked_left left p = prepend_known p.front (left p.source)

-- its faults are those of the source under it
abbrev pub peeked_faults : {S : Type 0} → (S → ℕ) → Peeked S → ℕ
peeked_faults faults p = faults p.source

-- sixteen bytes were read and not given yet, or all that are left
abbrev pub HasFront : {S : Type 0} → (S → Option (List ℕ)) → Peeked S → Type 0
HasFront left p = (length p.front ≡ 16) ⊎ IsAtEnd (left p.source)
