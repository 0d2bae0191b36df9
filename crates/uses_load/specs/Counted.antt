-- A number to which calls add 1.
use Rattle.std.specs.Prelude.{◌≡◌, ◌+◌, ◌%◌, ◌^◌, ℕ, List}
use Rattle.lock_book.specs.declared.view.Entry.{Entry}

-- a call leaves the number with 1 added, modulo 2^64
abbrev pub AddsOne : ℕ → ℕ → Type 0
AddsOne before after = after ≡ (before + 1) % 2 ^ 64

-- its calls: they bring nothing and are answered nothing
abbrev pub Counts : Type 0
Counts = List (Entry ℕ (Unit {0}) (Unit {0}))
