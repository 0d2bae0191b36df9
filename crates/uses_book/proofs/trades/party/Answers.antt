use Rattle.std.proofs.Common.{◌≡◌, ◌∙◌, ◌+◌, ℕ, ap, sym}
use Rattle.std.specs.Prelude.{Some}
use Rattle.word_map.specs.WordMap.{at as word_at}
use Rattle.word_map.proofs.Maps.{at-insert_same}
use Rattle.region_words.specs.Parts.{Owned}
use Rattle.lock_book.specs.Shown.{number_of}
use Rattle.uses_book.proofs.trades.party.Goals as goal

pub bring-requires-clause-part : goal.bring-requires-clause-part
bring-requires-clause-part g c = λ base is.
    let n = number_of c.args.hand.pass in
    let same : c.from-n.result ≡ n = c.from-n.ensures ∙ c.number.ensures in
    let wrote = ap (λ (p : Owned). word_at p.words n) c.store.ensures ∙ (at-insert_same c.args.hand.part.words c.from-n.result (c.from-n.result + 40) n (sym same) ∙ ap (λ (k : ℕ). Some (k + 40)) same) in
    (ap (λ (p : Owned). p.region) c.store.ensures ∙ (c.requires.ready.here ∙ sym (c.requires.open.here base is)), wrote)
