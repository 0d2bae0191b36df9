use Rattle.std.proofs.Common.{◌≡◌, ◌<◌, ◌≤◌, ◌-◌, ◌*◌, ◌∙◌, ℕ, List, Option, Some, None, arith, ap, cond, get_or, length, refl, sym, subst}
use Rattle.std.specs.FinMap as fin
use Rattle.std.specs.Option.{unwrap_or}
use Rattle.std.proofs.lemmas.List.{get_or_default}
use Rattle.dshash_core.specs.Cells.{partition_of}
use Rattle.dshash_core.specs.Key.{hash_of}
use Rattle.frozen_table.specs.Parts.{map_in}
use Rattle.join_pairs.specs.Chains.{number_in}
use Rattle.rel_pointer.specs.Bytes.{AllBytes}
use Rattle.hash_join.specs.Probes.{key_with}
use Rattle.hash_join.proofs.Fits.{words_fit}
use Rattle.hash_join.proofs.Lasts.{is_fits}
use Rattle.hash_join.proofs.probe.ProbeLasts.last.Goals as goal

or_none : (state : Option ℕ) → unwrap_or state 0 ≡ number_in state
or_none None = refl
or_none (Some row) = refl

pub returns : goal.returns
returns c =
    let p = c.args.self.now in
    let field = c.args.key.now in
    let key = key_with p.key_words field in
    let found = fin.get (map_in p.lookup.now (partition_of (hash_of key))) key in
    let few : length field ≤ 8 * (p.key_words - 1) = (let fit = (words_fit (length field)).0 in omega (arith, fit, c.div_ceil.ensures, c.if-div_ceil-self.false)) in
    let bytes : AllBytes field = λ k d low. let byte : get_or field k 0 < 256 = omega (arith, c.type_inv.key k) in subst (λ (b : ℕ). b < 256) (get_or_default field k 0 d low) byte in
    let cut : c.cut_key.result.now ≡ key = c.cut_key.ensures ∙ c.pack_words-packed.ensures in
    let got : c.get.result ≡ found = subst (λ (k : List ℕ). c.get.result ≡ fin.get (map_in p.lookup.now (partition_of (hash_of k))) k) cut c.get.ensures.is in
    c.unwrap_or.ensures ∙ ap (λ (o : Option ℕ). unwrap_or o 0) got ∙ or_none found ∙ sym (ap (λ b. cond b (number_in found) 0) (is_fits p.key_words field bytes few))
