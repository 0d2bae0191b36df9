-- The names and the places of chunks keep to one another.
use Rattle.std.proofs.Common.{◌≡◌, ◌≢◌, ◌∙◌, ◌⊎◌, inl, inr, ℕ, ◌<◌, List, None, Some, ap, sym, subst}
use Rattle.std.specs.Global.{Vec}
use Rattle.atomic_table.specs.Seated.{TableId}
use Rattle.region_words.specs.declared.chunk.Chunk.{Chunk}
use Rattle.shell_memory.specs.Chunks.{AreChunks, LoadsWord, StoresWord, chunk_of, name_beside}
use Rattle.shell_memory.specs.Names.{IsFree, Puts, Stays}
use Rattle.region_words.specs.Parts.{Owned}
use Rattle.shell_memory.specs.declared.chunks.ChunkAnswer.{ChunkAnswer}
use Rattle.shell_memory.specs.declared.chunks.ChunkAnswer.TheVariants.{Named, NoName, Range, Done, Granted, NoSpace, Stranger, Value}
use Rattle.shell_memory.specs.declared.chunks.Chunks.{Chunks}
use Rattle.shell_memory.proofs.Named.{all_after, all_stays, same_or_not}
use Rattle.shell_memory.proofs.Placed.{Sets}
use Rattle.std.proofs.lemmas.Bool.{cases_eq}

-- a chunk gets a name that was free, where nothing stood beside its place
pub entered : (region : TableId) (c c' : Chunks) (name : List ℕ) (chunk : Chunk) (key : Vec ℕ) → AreChunks region c → chunk.part.region ≡ region → 0 < chunk.bytes → IsFree c.named name
    → name_beside c.places chunk.at ≡ None → Puts c.named c'.named name (Some chunk) → Sets c.places c'.places chunk.at (Some key) → key.items ≡ name → AreChunks region c'
entered region c c' name chunk key a here some free nothing p s is = record {
  here = all_after (λ other y. y.part.region ≡ region) c.named c'.named name chunk p a.here here;
  some = all_after (λ other y. 0 < y.bytes) c.named c'.named name chunk p a.some some;
  noted = noted;
  right = right;
}
  where
    IsNoted : List ℕ → Chunk → Type 0
    IsNoted other y = (k : Vec ℕ) × (name_beside c'.places y.at ≡ Some k) × (k.items ≡ other)

    noted : (other : List ℕ) (y : Chunk) → chunk_of c' other ≡ Some y → IsNoted other y
    noted other y e = by (same_or_not name other)
      where
        by : (other ≡ name) ⊎ (other ≢ name) → IsNoted other y
        by (inl same) =
            let there : chunk_of c' name ≡ Some chunk = p.there in
            let found : chunk_of c' name ≡ Some y = subst (λ (l : List ℕ). chunk_of c' l ≡ Some y) same e in
            let is_it : chunk ≡ y = cc in
            (key, subst (λ (z : Chunk). name_beside c'.places z.at ≡ Some key) is_it s.there, is ∙ sym same)
        by (inr differs) =
            let old = a.noted other y (sym (p.others other differs) ∙ e) in
            let apart : y.at ≢ chunk.at = λ q. (let f : Some old.0 ≡ None = sym old.1 ∙ (ap (λ (k : ℕ). name_beside c.places k) q ∙ nothing) in absurd (cc)) in
            (old.0, s.others y.at apart ∙ old.1, old.2)

    right : (place : ℕ) (k : Vec ℕ) → name_beside c'.places place ≡ Some k → (y : Chunk) × (chunk_of c' k.items ≡ Some y) × (y.at ≡ place)
    right place k e = by (cases_eq place chunk.at)
      where
        by : (place ≡ chunk.at) ⊎ (place ≢ chunk.at) → (y : Chunk) × (chunk_of c' k.items ≡ Some y) × (y.at ≡ place)
        by (inl same) =
            let there : name_beside c'.places chunk.at ≡ Some key = s.there in
            let found : name_beside c'.places chunk.at ≡ Some k = subst (λ (l : ℕ). name_beside c'.places l ≡ Some k) same e in
            let is_it : key ≡ k = cc in
            (chunk, subst (λ (l : List ℕ). chunk_of c' l ≡ Some chunk) (sym is ∙ ap (λ (v : Vec ℕ). v.items) is_it) p.there, sym same)
        by (inr differs) =
            let old = a.right place k (sym (s.others place differs) ∙ e) in
            let apart : k.items ≢ name = λ q. (let f : Some old.0 ≡ None = sym old.1 ∙ (ap (λ (l : List ℕ). chunk_of c l) q ∙ free) in absurd (cc)) in
            (old.0, p.others k.items apart ∙ old.1, old.2)

-- a chunk's words change, and where it is does not
pub changed : (region : TableId) (c c' : Chunks) (name : List ℕ) (old new : Chunk) → AreChunks region c → chunk_of c name ≡ Some old → Puts c.named c'.named name (Some new) → c'.places ≡ c.places
    → new.at ≡ old.at → new.bytes ≡ old.bytes → new.part.region ≡ old.part.region → AreChunks region c'
changed region c c' name old new a was p same at bytes here = record {
  here = all_after (λ other y. y.part.region ≡ region) c.named c'.named name new p a.here (here ∙ a.here name old was);
  some = all_after (λ other y. 0 < y.bytes) c.named c'.named name new p a.some (subst (λ (n : ℕ). 0 < n) (sym bytes) (a.some name old was));
  noted = all_after (λ other y. (k : Vec ℕ) × (name_beside c'.places y.at ≡ Some k) × (k.items ≡ other)) c.named c'.named name new p noted_still (noted_new (a.noted name old was));
  right = right;
}
  where
    noted_still : (other : List ℕ) (y : Chunk) → chunk_of c other ≡ Some y → (k : Vec ℕ) × (name_beside c'.places y.at ≡ Some k) × (k.items ≡ other)
    noted_still other y e = let n = a.noted other y e in (n.0, ap (λ m. name_beside m y.at) same ∙ n.1, n.2)

    noted_new : ((k : Vec ℕ) × (name_beside c.places old.at ≡ Some k) × (k.items ≡ name)) → (k : Vec ℕ) × (name_beside c'.places new.at ≡ Some k) × (k.items ≡ name)
    noted_new n = (n.0, ap (λ m. name_beside m new.at) same ∙ (ap (λ (k : ℕ). name_beside c.places k) at ∙ n.1), n.2)

    right : (place : ℕ) (k : Vec ℕ) → name_beside c'.places place ≡ Some k → (y : Chunk) × (chunk_of c' k.items ≡ Some y) × (y.at ≡ place)
    right place k e = by (same_or_not name k.items) (a.right place k (sym (ap (λ m. name_beside m place) same) ∙ e))
      where
        by : (k.items ≡ name) ⊎ (k.items ≢ name) → ((y : Chunk) × (chunk_of c k.items ≡ Some y) × (y.at ≡ place)) → (y : Chunk) × (chunk_of c' k.items ≡ Some y) × (y.at ≡ place)
        by (inl is) r =
            let found : chunk_of c name ≡ Some r.0 = subst (λ (l : List ℕ). chunk_of c l ≡ Some r.0) is r.1 in
            let is_it : old ≡ r.0 = cc in
            (new, subst (λ (l : List ℕ). chunk_of c' l ≡ Some new) (sym is) p.there, at ∙ (ap (λ (y : Chunk). y.at) is_it ∙ r.2))
        by (inr differs) r = (r.0, p.others k.items differs ∙ r.1, r.2)

-- nothing changes
pub kept : (region : TableId) (c c' : Chunks) → AreChunks region c → Stays c.named c'.named → c'.places ≡ c.places → AreChunks region c'
kept region c c' a s same = record {
  here = all_stays (λ other y. y.part.region ≡ region) c.named c'.named s a.here;
  some = all_stays (λ other y. 0 < y.bytes) c.named c'.named s a.some;
  noted = λ other y e. (let n = a.noted other y (sym (s other) ∙ e) in (n.0, ap (λ m. name_beside m y.at) same ∙ n.1, n.2));
  right = λ place k e. (let r = a.right place k (sym (ap (λ m. name_beside m place) same) ∙ e) in (r.0, s k.items ∙ r.1, r.2));
}

-- a chunk's name is free again, and nothing stands beside its place
pub forgotten : (region : TableId) (c c' : Chunks) (name : List ℕ) (chunk : Chunk) → AreChunks region c → chunk_of c name ≡ Some chunk → Puts c.named c'.named name None → Sets c.places c'.places chunk.at None → AreChunks region c'
forgotten region c c' name chunk a was p s = record {
  here = λ other y e. a.here other y (old other y e);
  some = λ other y e. a.some other y (old other y e);
  noted = noted;
  right = right;
}
  where
    -- another name than this
    differs : (other : List ℕ) (y : Chunk) → chunk_of c' other ≡ Some y → other ≢ name
    differs other y e q = (let f : Some y ≡ None = sym e ∙ (ap (λ (l : List ℕ). chunk_of c' l) q ∙ p.there) in absurd (cc))

    old : (other : List ℕ) (y : Chunk) → chunk_of c' other ≡ Some y → chunk_of c other ≡ Some y
    old other y e = sym (p.others other (differs other y e)) ∙ e

    noted : (other : List ℕ) (y : Chunk) → chunk_of c' other ≡ Some y → (k : Vec ℕ) × (name_beside c'.places y.at ≡ Some k) × (k.items ≡ other)
    noted other y e =
        let n = a.noted other y (old other y e) in
        let m = a.noted name chunk was in
        let apart : y.at ≢ chunk.at = λ q. (
        let f : Some n.0 ≡ Some m.0 = sym n.1 ∙ (ap (λ (k : ℕ). name_beside c.places k) q ∙ m.1) in
        let g : n.0 ≡ m.0 = cc in
        differs other y e (sym n.2 ∙ (ap (λ (v : Vec ℕ). v.items) g ∙ m.2))) in
        (n.0, s.others y.at apart ∙ n.1, n.2)

    right : (place : ℕ) (k : Vec ℕ) → name_beside c'.places place ≡ Some k → (y : Chunk) × (chunk_of c' k.items ≡ Some y) × (y.at ≡ place)
    right place k e =
        let away : place ≢ chunk.at = λ q. (let f : Some k ≡ None = sym e ∙ (ap (λ (l : ℕ). name_beside c'.places l) q ∙ s.there) in absurd (cc)) in
        let r = a.right place k (sym (s.others place away) ∙ e) in
        let still : k.items ≢ name = λ q. (
        let found : chunk_of c name ≡ Some r.0 = subst (λ (l : List ℕ). chunk_of c l ≡ Some r.0) q r.1 in
        let is_it : chunk ≡ r.0 = cc in
        away (sym (ap (λ (y : Chunk). y.at) is_it ∙ r.2))) in
        (r.0, p.others k.items still ∙ r.1, r.2)

-- a step of a chunk at a name leaves where it is
record IsStep (old new : Chunk) : Type 0 where
  at : new.at ≡ old.at
  bytes : new.bytes ≡ old.bytes
  here : new.part.region ≡ old.part.region

stores-step : (old new : Chunk) (n value : ℕ) (a : ChunkAnswer) → StoresWord old new n value a → IsStep old new
stores-step old new n value Range s = record { at = s.1.0; bytes = s.1.1; here = ap (λ (p : Owned). p.region) s.1.2 }
stores-step old new n value Done s = record { at = s.1.0; bytes = s.1.1; here = ap (λ (p : Owned). p.region) s.1.2 }
stores-step old new n value Named s = absurd s
stores-step old new n value NoName s = absurd s
stores-step old new n value (Granted size) s = absurd s
stores-step old new n value (NoSpace pages largest) s = absurd s
stores-step old new n value Stranger s = absurd s
stores-step old new n value (Value v) s = absurd s

loads-step : (old new : Chunk) (n : ℕ) (a : ChunkAnswer) → LoadsWord old new n a → IsStep old new
loads-step old new n Range s = record { at = s.1.0; bytes = s.1.1; here = ap (λ (p : Owned). p.region) s.1.2 }
loads-step old new n (Value v) s = record { at = s.2.0; bytes = s.2.1; here = ap (λ (p : Owned). p.region) s.2.2 }
loads-step old new n Named s = absurd s
loads-step old new n NoName s = absurd s
loads-step old new n (Granted size) s = absurd s
loads-step old new n (NoSpace pages largest) s = absurd s
loads-step old new n Stranger s = absurd s
loads-step old new n Done s = absurd s

-- the chunks after a word got a value
pub stored : (region : TableId) (c c' : Chunks) (name : List ℕ) (old new : Chunk) (n value : ℕ) (a : ChunkAnswer) → AreChunks region c → chunk_of c name ≡ Some old → Puts c.named c'.named name (Some new) → c'.places ≡ c.places
    → StoresWord old new n value a → AreChunks region c'
stored region c c' name old new n value a all was p same s = let step = stores-step old new n value a s in changed region c c' name old new all was p same step.at step.bytes step.here

-- the chunks after a word was read
pub loaded : (region : TableId) (c c' : Chunks) (name : List ℕ) (old new : Chunk) (n : ℕ) (a : ChunkAnswer) → AreChunks region c → chunk_of c name ≡ Some old → Puts c.named c'.named name (Some new) → c'.places ≡ c.places
    → LoadsWord old new n a → AreChunks region c'
loaded region c c' name old new n a all was p same s = let step = loads-step old new n a s in changed region c c' name old new all was p same step.at step.bytes step.here
