-- A table of zeros, with one token that owns all words, is under the rule.
use Rattle.std.proofs.Common.{◌≡◌, ℕ, zero, suc, ◌+◌, ◌<◌, ◌≤◌, List, [], ◌∷◌, length, replicate, None, refl, sym, ap, subst, ◌∙◌, arith}
use mathlib.Core.Option.{some, some-injective, some-ne-none}
use lib.ListN.{get_elem?}
use Rattle.atomic_table.specs.Table.{opening}
use Rattle.atomic_table.proofs.Lists.{at_map}
use Rattle.word_map.specs.WordMap.{numbered}
use Rattle.ring_rule.proofs.Stored.{has_at}
use Rattle.region_rule.specs.View.{Own}
use Rattle.region_rule.specs.Places.{Token, idle, InWord, IsOut, IsCopied, Ruled}
use Rattle.region_rule.proofs.Moves.{nothing_out, nothing_copied}
use Rattle.region_rule.proofs.Runs.{zeros-length}

one_token : (t g : Token) (i : ℕ) → get_elem? (t ∷ []) i ≡ some g → t ≡ g
one_token t g zero e = some-injective t g e
one_token t g (suc i) e = absurd (some-ne-none g (sym e))

pub opens_table : (count : ℕ) → Ruled count (opening (replicate count 0) (replicate count 0) (idle (Own (numbered 0 (replicate count 0)) None)))
opens_table count = (
  ws,
  ([], refl),
  record {
    counted = zeros-length count;
    outs = λ i g e. subst (IsOut ws) (one_token first g i e) (nothing_out ws first.view 0);
    copies = λ i g e. subst (IsCopied ws ws homes) (one_token first g i e) (nothing_copied ws ws homes first.view 0);
    filled = λ q low free. let y = has_at ws q (subst (λ (n : ℕ). q < n) (sym (zeros-length count)) low) in (y.0, at_map some ws q y.0 y.1);
    at_home = λ i g q x e c free f. at_map some ws q x f;
    in_word = λ i g q x e c f. absurd (subst (λ (z : Token). InWord z.view q) (sym (one_token first g i e)) c);
  },
)
  where
    ws : List ℕ
    ws = replicate count 0

    homes : List (mathlib.Core.Option.Option ℕ)
    homes = Rattle.std.proofs.Common.map some (replicate count 0)

    first : Token
    first = idle (Own (numbered 0 (replicate count 0)) None)
