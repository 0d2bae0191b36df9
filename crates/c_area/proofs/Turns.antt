-- What a turn at the area leaves of a share.
use Rattle.std.proofs.Common.{◌≡◌, ◌≢◌, ℕ, ◌+◌, ◌*◌, ◌/◌, ◌%◌, ◌<◌, ◌≤◌, Option, Some, None, is_some, IsSome, refl, sym, ap, subst, ◌∙◌, arith}
use Rattle.std_alloc.specs.Arc.{arc_value}
use Rattle.atomic_table.specs.Seated.{TableId}
use Rattle.word_map.specs.WordMap.{WordMap, at, range_of, rest_of, union}
use Rattle.region_words.specs.Parts.{Owned, owned}
use Rattle.region_words.specs.declared.chunk.Chunk.{Chunk}
use Rattle.free_pages.specs.declared.pages.NoRun.{NoRun}
use Rattle.free_pages.specs.declared.pages.Usage.{Usage as Pages}
use Rattle.slab.specs.Slab.{Slab, Updates, get}
use Rattle.lock_book.specs.Shown.{Belongs, number_of}
use Rattle.dsa_area.specs.Sizes.{chunk_size}
use Rattle.c_area.specs.Arenas.{name_in}
use Rattle.c_area.specs.Asked.{AnswerFits, call_of, reply_of}
use Rattle.c_area.specs.Shares.{IsIn, IsShare, chunk_of, extent}
use Rattle.c_area.specs.States.{AreaCall, AreaReply, LookAt, Refused, Seen}
use Rattle.c_area.specs.Tries.{Gains, Makes, SameChunks, Stays}
use Rattle.c_area.specs.declared.histories.AreaName.{AreaName}
use Rattle.c_area.specs.declared.locked.AreaAsk.{AreaAsk}
use Rattle.c_area.specs.declared.locked.AreaAsk.TheVariants.{Alloc, Free, Trim, Usage}
use Rattle.c_area.specs.declared.locked.AreaAnswer.{AreaAnswer}
use Rattle.c_area.specs.declared.locked.AreaAnswer.TheVariants.{Given, Lacking, Taken, Back, Gone, Left, Used}
use Rattle.c_area.specs.declared.shared.Extent.{Extent}
use Rattle.c_area.specs.declared.shared.Share.{Share}
use Rattle.c_area.proofs.Chunks.{back_again}
use Rattle.c_area.proofs.Keeping.{gains_of, gains_without, repassed, reserved, share_without}

-- a turn of a share that has room for one number more
module _ (s : Share) (c' : Slab Extent) (u : Share) (same : (i : ℕ) → get c' i ≡ get s.chunks i) (rest : u ≡ record s { chunks = c'; pass = u.pass }) where
  pub turn_share : IsShare s → Belongs (arc_value s.shared).shelf u.pass → IsShare u
  turn_share w own = subst IsShare (sym rest) (repassed (record s { chunks = c' }) u.pass (reserved s c' w same) own)

  pub turn_stays : number_of u.pass ≡ number_of s.pass → Stays s u
  turn_stays caller = record { shared = ap (λ (x : Share). x.shared) rest; caller = caller; others = ap (λ (x : Share). x.others) rest }

  pub turn_chunks : SameChunks s u
  turn_chunks = record { chunks = λ i. ap (λ (x : Share). chunk_of x i) rest ∙ same i; words = ap (λ (x : Share). x.words) rest }

-- the call and the reply of an answer
pub told : (s t : Share) (call : AreaCall) (a b : AreaAnswer) → a ≡ b → Makes s t call (reply_of a) → Makes s t call (reply_of b)
told s t call a b e m = subst (λ (z : AreaAnswer). Makes s t call (reply_of z)) e m

-- the numbers of a refusal
pub refused : (s t : Share) (call : AreaCall) (a : AreaAnswer) (x : NoRun) → a ≡ Lacking x → Makes s t call (reply_of a) → (wanted largest : ℕ) × Makes s t call (Refused wanted largest)
refused s t call a x e m = (x.wanted, x.largest, told s t call a (Lacking x) e m)

-- a chunk that was granted
pub granted_fits : (n : AreaName) (bytes : ℕ) (a : AreaAnswer) (x : Chunk) → a ≡ Given x → AnswerFits n (Alloc bytes) a → (x.bytes ≡ chunk_size bytes) × (x.part.region ≡ n.region)
granted_fits n bytes a x e f = subst (λ (z : AreaAnswer). AnswerFits n (Alloc bytes) z) e f

-- a chunk that was handed back is the one that was brought
pub handed_back : (n : AreaName) (chunk : Chunk) (a : AreaAnswer) (x : Chunk) → a ≡ Back x → AnswerFits n (Free chunk) a → x ≡ chunk
handed_back n chunk a x e f = subst (λ (z : AreaAnswer). AnswerFits n (Free chunk) z) e f

-- an ask that comes back has the chunk that was brought
pub same_brought : (x y : Chunk) (a : AreaAsk) → a ≡ Free x → a ≡ Free y → x ≡ y
same_brought x y a p q = ap pick (sym p ∙ q)
  where
    pick : AreaAsk → Chunk
    pick (Alloc bytes) = x
    pick (Free z) = z
    pick (Trim class) = x
    pick Usage = x

-- a chunk has a word
pub a_word : (b n : ℕ) → b % 8 ≡ 0 → n ≤ b → 1 ≤ n → 8 ≤ b
a_word b n e h k = omega arith

-- a chunk's words went out of a share, and a turn was made
module _ (s : Share) (w : IsShare s) (o : Owned) (u : Share) (number : ℕ) (e : Extent) (there : chunk_of s number ≡ Some e) (cut : o ≡ owned s.words.region (rest_of s.words.words e.at e.words)) (rest : u ≡ record s { words = o; pass = u.pass }) (own : Belongs (arc_value s.shared).shelf u.pass) where
  pub out_stays : (c' : Slab Extent) → number_of u.pass ≡ number_of s.pass → Stays s (record u { chunks = c' })
  out_stays c' caller = record { shared = ap (λ (x : Share). x.shared) rest; caller = caller; others = ap (λ (x : Share). x.others) rest }

  pub still_there : chunk_of u number ≡ Some e
  still_there = ap (λ (x : Share). chunk_of x number) rest ∙ there

  pub gone_share : (c' : Slab Extent) → Updates u.chunks c' number None → IsShare (record u { chunks = c' })
  gone_share c' = subst (λ (x : Share). Updates x.chunks c' number None → IsShare (record x { chunks = c' })) (sym rest)
      (λ ups. subst (λ (z : Owned). IsShare (record s { words = z; chunks = c'; pass = u.pass })) (sym cut) (repassed (record s { words = owned s.words.region (rest_of s.words.words e.at e.words); chunks = c' }) u.pass (share_without s w c' number e there ups) own))

  pub gone_gains : (c' : Slab Extent) → Updates u.chunks c' number None → Gains (record u { chunks = c' }) s number e
  gone_gains c' = subst (λ (x : Share). Updates x.chunks c' number None → Gains (record x { chunks = c' }) s number e) (sym rest)
      (λ ups. subst (λ (z : Owned). Gains (record s { words = z; chunks = c'; pass = u.pass }) s number e) (sym cut)
      (let g = gains_without s w c' number e there ups in record { new = g.new; there = g.there; others = g.others; fresh = g.fresh; mine = g.mine; rest = g.rest }))

  -- the words came back
  module _ (p : Owned) (back : p ≡ owned s.words.region (range_of s.words.words e.at e.words)) where
    words_again : owned u.words.region (union u.words.words p.words) ≡ s.words
    words_again =
        let out = ap (λ (x : Share). x.words) rest ∙ cut in
        (λ i. owned (out i).region (union (out i).words (back i).words)) ∙ back_again s.words.region s.words.words e.at e.words

    pub back_share : (v : Share) → v ≡ record u { words = owned u.words.region (union u.words.words p.words) } → IsShare v
    back_share v is = subst IsShare (sym (is ∙ whole)) (repassed s u.pass w own)
      where
        whole : record u { words = owned u.words.region (union u.words.words p.words) } ≡ record s { pass = u.pass }
        whole = (λ i. record (rest i) { words = words_again i })

    pub back_stays : (v : Share) → v ≡ record u { words = owned u.words.region (union u.words.words p.words) } → number_of u.pass ≡ number_of s.pass → Stays s v
    back_stays v is caller = record { shared = ap (λ (x : Share). x.shared) is ∙ ap (λ (x : Share). x.shared) rest; caller = ap (λ (x : Share). number_of x.pass) is ∙ caller; others = ap (λ (x : Share). x.others) is ∙ ap (λ (x : Share). x.others) rest }

    pub back_chunks : (v : Share) → v ≡ record u { words = owned u.words.region (union u.words.words p.words) } → SameChunks s v
    back_chunks v is = record { chunks = λ i. ap (λ (x : Share). chunk_of x i) is ∙ ap (λ (x : Share). chunk_of x i) rest; words = ap (λ (x : Share). x.words) is ∙ words_again }
