use Rattle.std.proofs.Common.{◌≡◌, ◌++◌, length, string_bytes}
use Rattle.shown_text.specs.Shown.{shown_after}
use Rattle.shown_text.proofs.escaped.put_escaped.Given as goal

-- what is shown so far, and what will be of the rest
abbrev pub invariant-fronts : goal.invariant-fronts
invariant-fronts l = string_bytes l.text ++ shown_after 0 l.rest ≡ string_bytes l.fn.text ++ shown_after 0 l.fn.bytes

abbrev pub decreases-fronts : goal.decreases-fronts
decreases-fronts l = length l.rest
