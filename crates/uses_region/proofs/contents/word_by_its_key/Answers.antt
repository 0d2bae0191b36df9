use Rattle.std.proofs.Common.{◌≡◌, ℕ, ◌+◌, List, ◌∷◌, ◌++◌, [], Option, Some, is_some, cond, sym, ap, ◌∙◌, arith}
use Rattle.std.specs.FinMap as fin
use Rattle.word_map.specs.WordMap.{WordMap, at, union}
use Rattle.word_map.proofs.Maps.{at-union_cond, at-insert_same}
use Rattle.region_words.specs.Parts.{Owned}
use Rattle.shm_toc.specs.Table.{Entry, Table, place_of, table_of}
use Rattle.uses_region.proofs.contents.word_by_its_key.Goals as goal

-- the word that stands at the place of the one key
word_there : (w m n v : WordMap) (place found : ℕ) → w ≡ union m n → n ≡ fin.insert v (place + 0) 7 → (table_of w).entries ≡ record { key = 5; place = place } ∷ []
    → Some found ≡ place_of (table_of w).entries 5 → at w found ≡ Some 7
word_there w m n v place found e f g h =
    let s : Some found ≡ Some place = h ∙ ap (λ (es : List Entry). place_of es 5) g in
    let p : found ≡ place = cc in
    let q : at n place ≡ Some 7 = ap (λ (z : WordMap). at z place) f ∙ at-insert_same v (place + 0) 7 place (omega arith) in
    ap (at w) p ∙ ap (λ (z : WordMap). at z place) e ∙ at-union_cond m n place ∙ ap (λ (o : Option ℕ). cond (is_some o) o (at m place)) q

pub load-requires-clause-has : goal.load-requires-clause-has
load-requires-clause-has c =
    let same = c.in-Ok-attach.ensures.attached.1 ∙ c.share-share.ensures.copy ∙ c.freeze-toc.ensures in
    let empty = ap (λ (t : Table). t.entries) (c.in-Ok.ensures.taken) ∙ ap (λ (t : Table). t.entries) c.create-toc.ensures.empty in
    let entries : (table_of c.keep.new.self.words).entries ≡ record { key = 5; place = c.in-Ok.chunk.at } ∷ [] =
    ap (λ (t : Table). t.entries) (c.keep.ensures.same ∙ c.in-Ok-insert.ensures.entered)
    ∙ (λ i. empty i ++ (record { key = 5; place = c.store.ensures.place.0 i } ∷ [])) in
    let looked : Some c.in_ok-at.at ≡ place_of (table_of c.keep.new.self.words).entries 5 =
    sym c.in_ok-at.was ∙ c.lookup.ensures.found ∙ ap (λ (o : Owned). place_of (table_of o.words).entries 5) same in
    ap is_some (ap (λ (o : Owned). at o.words c.in_ok-at.at) (c.lookup.ensures.same ∙ same)
    ∙ word_there _ _ _ _ c.in-Ok.chunk.at c.in_ok-at.at c.keep.ensures.words (ap (λ (o : Owned). o.words) c.store.ensures.part) entries looked)

pub returns : goal.returns
returns c =
    let same = c.in-Ok-attach.ensures.attached.1 ∙ c.share-share.ensures.copy ∙ c.freeze-toc.ensures in
    let empty = ap (λ (t : Table). t.entries) (c.in-Ok.ensures.taken) ∙ ap (λ (t : Table). t.entries) c.create-toc.ensures.empty in
    let entries : (table_of c.keep.new.self.words).entries ≡ record { key = 5; place = c.in-Ok.chunk.at } ∷ [] =
    ap (λ (t : Table). t.entries) (c.keep.ensures.same ∙ c.in-Ok-insert.ensures.entered)
    ∙ (λ i. empty i ++ (record { key = 5; place = c.store.ensures.place.0 i } ∷ [])) in
    let looked : Some c.in_ok-at.at ≡ place_of (table_of c.keep.new.self.words).entries 5 =
    sym c.in_ok-at.was ∙ c.lookup.ensures.found ∙ ap (λ (o : Owned). place_of (table_of o.words).entries 5) same in
    sym c.load.ensures.found ∙ ap (λ (o : Owned). at o.words c.in_ok-at.at) (c.lookup.ensures.same ∙ same)
    ∙ word_there _ _ _ _ c.in-Ok.chunk.at c.in_ok-at.at c.keep.ensures.words (ap (λ (o : Owned). o.words) c.store.ensures.part) entries looked
