-- A call of the names and its store, as a call of the chunks.
use Rattle.std.proofs.Common.{◌≡◌, ℕ, Bool, true, false, not, ◌&&◌, List, Option, Some, None, is_some, is_none, nat_lt, option_map, refl, sym, ap, ap₂, subst, ◌∙◌}
use Rattle.std.specs.FinMap as fin
use Rattle.word_map.specs.WordMap.{WordMap}
use Rattle.dshash_core.specs.Cells.{KeyMap, full_above}
use Rattle.dshash_core.specs.Outcome.{would_insert, removes, is_full, next_of, IsDone, IsNeedItem, IsTooFull}
use Rattle.region_words.specs.declared.chunk.Chunk.{Chunk}
use Rattle.dshash_chunks.specs.declared.held.Held.{Held}
use Rattle.dshash_chunks.specs.declared.held.ChunkCalls.{ChunkCalls}
use Rattle.dshash_chunks.specs.declared.held.ChunkCalls.TheVariants as chunks
use Rattle.dshash_chunks.specs.declared.held.ChunkCalls.TheVariants.{With}
use Rattle.dshash_chunks.specs.declared.held.ChunkReplies.{ChunkReplies}
use Rattle.dshash_chunks.specs.declared.held.ChunkReplies.TheVariants.{Was, Did}
use Rattle.dshash_chunks.specs.declared.name.NameCall.{NameCall}
use Rattle.dshash_chunks.specs.declared.name.NameCall.TheVariants.{Put, Get, Take}
use Rattle.dshash_chunks.specs.Named.{stepped as named}
use Rattle.dshash_chunks.specs.declared.name.ChunkName.{ChunkName}
use Rattle.dshash_chunks.specs.Held.{held, held_in, stepped, worked_on}
use Rattle.dshash_chunks.specs.Stored.{shown}
use Rattle.dshash_chunks.proofs.Shown.{KeepOthers, follows, get-shown, has-shown, is_none-mapped, is_some-mapped, len-shown, shown_follows}

-- names make steps of calls `c`, and chunks those of calls `C`; v are the words afterwards, and m those before
module _ {C c R r : Type 0} (step : Option Held → C → Option Held × R) (small : Option ChunkName → c → Option ChunkName × r) (m v : WordMap) (names : KeyMap ChunkName) (key : List ℕ) (call : C) (asked : c) where
  -- the same key comes, goes or stays
  abbrev pub Agrees : Type 0
  Agrees = option_map (held v) (next_of small names key asked) ≡ next_of step (shown m names) key call

  full-shown : (size : ℕ) → is_full (shown m names) size ≡ is_full names size
  full-shown size = ap (λ (n : ℕ). nat_lt (full_above size) n && nat_lt size 20) (len-shown m names)

  module _ (agrees : Agrees) where
    some_next : is_some (next_of step (shown m names) key call) ≡ is_some (next_of small names key asked)
    some_next = ap is_some (sym agrees) ∙ is_some-mapped (held v) (next_of small names key asked)

    none_next : is_none (next_of step (shown m names) key call) ≡ is_none (next_of small names key asked)
    none_next = ap is_none (sym agrees) ∙ is_none-mapped (held v) (next_of small names key asked)

    pub inserts-shown : would_insert (shown m names) key (next_of step (shown m names) key call) ≡ would_insert names key (next_of small names key asked)
    inserts-shown = ap₂ (λ a b. not a && b) (has-shown m names key) some_next

    removes-shown : removes (shown m names) key (next_of step (shown m names) key call) ≡ removes names key (next_of small names key asked)
    removes-shown = ap₂ (λ a b. a && b) (has-shown m names key) none_next

    -- the call was made
    pub done-shown : (size : ℕ) (spare : Bool) (said : r) (reply : R) (unused freed : Bool) (now : KeyMap ChunkName) → IsDone small size names key asked spare said unused freed now → KeepOthers m v names key → reply ≡ (step (fin.get (shown m names) key) call).1 → IsDone step size (shown m names) key call spare reply unused freed (shown v now)
    done-shown size spare said reply unused freed now d keep replied = record {
      replied = replied;
      steps = shown_follows m v names now key (next_of small names key asked) (next_of step (shown m names) key call) (follows names now key (next_of small names key asked) d.steps) keep agrees;
      may = λ e. let p = d.may (sym inserts-shown ∙ e) in (full-shown size ∙ p.0, p.1);
      unused_is = d.unused_is ∙ ap (λ b. spare && not b) (sym inserts-shown);
      freed_is = d.freed_is ∙ sym removes-shown;
    }

-- calls of names as calls of chunks. `said` is the name that was there, and v are the words afterwards
module _ {C R : Type 0} (worked : List ℕ → C → List ℕ × R) (m v : WordMap) (names now : KeyMap ChunkName) (key : List ℕ) (size : ℕ) where
  abbrev step : Option Held → ChunkCalls C → Option Held × ChunkReplies R
  step = stepped worked

  abbrev Small : NameCall → Bool → Option ChunkName → Bool → Bool → Type 0
  Small asked spare said unused freed = IsDone named size names key asked spare said unused freed now

  before : (said : Option ChunkName) → said ≡ fin.get names key → fin.get (shown m names) key ≡ option_map (held m) said
  before said e = get-shown m names key ∙ ap (option_map (held m)) (sym e)

  -- a chunk came
  pub put_done : (n : ChunkName) (new : Held) (spare : Bool) (said : Option ChunkName) (old : Option Chunk) (unused freed : Bool) → Small (Put n) spare said unused freed → KeepOthers m v names key → held v n ≡ new → option_map held_in old ≡ option_map (held m) said
      → IsDone step size (shown m names) key (chunks.Put new) spare (Was (option_map held_in old)) unused false (shown v now)
  put_done n new spare said old unused freed d keep comes goes =
      let agrees : option_map (held v) (Some n) ≡ Some new = ap Some comes in
      let none_freed : freed ≡ false = d.freed_is ∙ never (fin.contains_key names key) in
      subst (λ (b : Bool). IsDone step size (shown m names) key (chunks.Put new) spare (Was (option_map held_in old)) unused b (shown v now)) none_freed
      (done-shown step named m v names key (chunks.Put new) (Put n) agrees size spare said (Was (option_map held_in old)) unused freed now d keep (ap Was (goes ∙ sym (before said d.replied))))
    where
      never : (b : Bool) → (b && false) ≡ false
      never true = refl
      never false = refl

  -- it lacked an item, or the partition had to grow
  pub need_put : (n : ChunkName) (new : Held) (spare : Bool) → IsNeedItem named size names key (Put n) spare now → IsNeedItem step size (shown m names) key (chunks.Put new) spare (shown m now)
  need_put n new spare d = record {
    inserts = ap (λ (b : Bool). not b && true) (has-shown m names key) ∙ d.inserts;
    room = full-shown step named m m names key (chunks.Put new) (Put n) size ∙ d.room;
    bare = d.bare;
    same = ap (shown m) d.same;
  }

  pub full_put : (n : ChunkName) (new : Held) (spare : Bool) (told : ℕ) (back : Bool) → IsTooFull named size names key (Put n) spare told back now → IsTooFull step size (shown m names) key (chunks.Put new) spare told back (shown m now)
  full_put n new spare told back d = record {
    inserts = ap (λ (b : Bool). not b && true) (has-shown m names key) ∙ d.inserts;
    full = full-shown step named m m names key (chunks.Put new) (Put n) size ∙ d.full;
    told_is = d.told_is;
    back_is = d.back_is;
    same = ap (shown m) d.same;
  }

  -- one went
  pub take_done : (said : Option ChunkName) (old : Option Chunk) (unused freed : Bool) → Small Take false said unused freed → KeepOthers m v names key → option_map held_in old ≡ option_map (held m) said
      → IsDone step size (shown m names) key chunks.Take false (Was (option_map held_in old)) false freed (shown v now)
  take_done said old unused freed d keep goes =
      subst (λ (b : Bool). IsDone step size (shown m names) key chunks.Take false (Was (option_map held_in old)) b freed (shown v now)) d.unused_is
      (done-shown step named m v names key chunks.Take Take refl size false said (Was (option_map held_in old)) unused freed now d keep (ap Was (goes ∙ sym (before said d.replied))))

  -- what is there is not taken out by a look
  stays : (o : Option ChunkName) → (is_some o && is_none o) ≡ false
  stays (Some n) = refl
  stays None = refl

  -- a step was taken on a chunk
  pub with_done : (call : C) (n : ChunkName) (said : Option ChunkName) (reply : R) (unused freed : Bool) → Small Get false said unused freed → said ≡ Some n → KeepOthers m v names key → held v n ≡ worked_on worked (held m n) call → reply ≡ (worked (held m n).words call).1
      → IsDone step size (shown m names) key (With call) false (Did (Some reply)) false false (shown v now)
  with_done call n said reply unused freed d some keep after answer =
      let there : fin.get names key ≡ Some n = sym d.replied ∙ some in
      let seen : fin.get (shown m names) key ≡ Some (held m n) = get-shown m names key ∙ ap (option_map (held m)) there in
      let agrees : option_map (held v) (fin.get names key) ≡ (step (fin.get (shown m names) key) (With call)).0 = ap (option_map (held v)) there ∙ (ap Some after ∙ sym (ap (λ o. (step o (With call)).0) seen)) in
      let replied : Did (Some reply) ≡ (step (fin.get (shown m names) key) (With call)).1 = ap (λ x. Did (Some x)) answer ∙ sym (ap (λ o. (step o (With call)).1) seen) in
      subst (λ (b : Bool). IsDone step size (shown m names) key (With call) false (Did (Some reply)) b false (shown v now)) d.unused_is
      (subst (λ (b : Bool). IsDone step size (shown m names) key (With call) false (Did (Some reply)) unused b (shown v now)) (d.freed_is ∙ stays (fin.get names key))
      (done-shown step named m v names key (With call) Get agrees size false said (Did (Some reply)) unused freed now d keep replied))

  -- or there was none
  pub without_done : (call : C) (said : Option ChunkName) (unused freed : Bool) → Small Get false said unused freed → said ≡ None → KeepOthers m v names key
      → IsDone step size (shown m names) key (With call) false (Did None) false false (shown v now)
  without_done call said unused freed d none keep =
      let gone : fin.get names key ≡ None = sym d.replied ∙ none in
      let seen : fin.get (shown m names) key ≡ None = get-shown m names key ∙ ap (option_map (held m)) gone in
      let agrees : option_map (held v) (fin.get names key) ≡ (step (fin.get (shown m names) key) (With call)).0 = ap (option_map (held v)) gone ∙ sym (ap (λ o. (step o (With call)).0) seen) in
      let replied : Did None ≡ (step (fin.get (shown m names) key) (With call)).1 = sym (ap (λ o. (step o (With call)).1) seen) in
      subst (λ (b : Bool). IsDone step size (shown m names) key (With call) false (Did None) b false (shown v now)) d.unused_is
      (subst (λ (b : Bool). IsDone step size (shown m names) key (With call) false (Did None) unused b (shown v now)) (d.freed_is ∙ stays (fin.get names key))
      (done-shown step named m v names key (With call) Get agrees size false said (Did None) unused freed now d keep replied))
