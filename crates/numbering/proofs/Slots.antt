-- A slot's settings, one after another: those that hold numbers, and those that get them.
use mathlib.Core.Path.{◌≡◌, refl, sym, ap, ap₂, subst, ◌∙◌}
use mathlib.Core.Bool.{Bool, true, false}
use mathlib.Core.List.{List, [], ◌∷◌, ◌++◌, append_assoc, append-nil}
use Prim.Native.Nat.{ℕ, zero, suc, ◌+◌, ◌*◌, ◌≤◌, ◌<◌}
use native.Mathlib.Nat.{add-zero}
use native.Mathlib.Numerals.{add-one}
use native.Mathlib.Omega.{arith}
use lib.ListN.{length, get_or, take, drop, set}
use lib.Seq.{take-suc, take_all, length-take-le, get_or-take, get_or-drop, drop-cons, drop-length, set-append_seam}
use Rattle.std.specs.Prelude.{Option, Some, None}
use Rattle.std.specs.Option.{is_some, unwrap_or}
use Rattle.lists.specs.Pick.{pick}
use Rattle.lists.specs.Part.{part}
use Rattle.chains.specs.Limits.{max_kids, max_settings}
use Rattle.ranks.specs.Entries.{labels, entry_bytes, none}
use Rattle.ranks.specs.Reads.{label_at}
use Rattle.numbering.specs.Walk.{Tables, tables, label_in, Held, holder, holds, held, numbered, unused, slot_labels}
use Rattle.numbering.specs.Giving.{Holding, HeldOne, HeldOwn, Slot}
use Rattle.numbering.specs.declared.numbers.Holder.{Holder}
use Rattle.numbering.proofs.Labelled.{numbered_long, holding, numbered_append, unused_append, slot_labels_long}
use Rattle.numbering.proofs.Holders.{holder_none, holding_taken}

-- a label is read where the walk has it
pub label_read : (T : Tables) (e s a : ℕ) → s ≤ max_kids → a < max_settings → label_at T.down e (s * max_settings + a) ≡ label_in T e s a
label_read T e s a h l =
    let o : s * max_settings + a < labels = omega arith in
    get_or-take labels (part (e * entry_bytes) entry_bytes T.down) (s * max_settings + a) none o
    ∙ get_or-take entry_bytes (drop (e * entry_bytes) T.down) (s * max_settings + a) none (omega arith)
    ∙ get_or-drop (e * entry_bytes) T.down (s * max_settings + a) none

-- one setting more
slot_labels_more : (T : Tables) (e s a n : ℕ) → slot_labels T e s a (suc n) ≡ slot_labels T e s a n ++ label_in T e s (a + n) ∷ []
unfolding slot_labels
slot_labels_more T e s a zero = rw (add-zero a)
slot_labels_more T e s a (suc n) =
    let m : suc a + n ≡ a + suc n = omega arith in
    ap (λ t. label_in T e s a ∷ t) (slot_labels_more T e s (suc a) n ∙ ap (λ k. slot_labels T e s (suc a) n ++ label_in T e s k ∷ []) m)

pub held_append : (xs ys ns ms : List ℕ) → length xs ≡ length ns → held (xs ++ ys) (ns ++ ms) ≡ held xs ns ++ held ys ms
held_append [] ys [] ms e = refl
held_append [] ys (n ∷ ns) ms e = absurd (omega arith)
held_append (x ∷ xs) ys [] ms e = absurd (omega arith)
held_append (x ∷ xs) ys (n ∷ ns) ms e = ap (λ t. (x, n) ∷ t) (held_append xs ys ns ms (omega arith))

-- labels xs, then ys: who holds them
pub holding_append : (hs : List Held) (n : ℕ) (xs ys : List ℕ) → holding hs n (xs ++ ys) ≡ holding (holding hs n xs) (unused hs n xs) ys
holding_append hs n xs ys =
    let ns = numbered hs n xs in
    let ms = numbered (holding hs n xs) (unused hs n xs) ys in
    ap (λ t. hs ++ held (xs ++ ys) t) (numbered_append hs n xs ys)
    ∙ ap (λ t. hs ++ t) (held_append xs ys ns ms (sym (numbered_long hs n xs)))
    ∙ sym (append_assoc hs (held xs ns) (held ys ms))

-- ── slot 0, whose settings have the numbers ns: the first a of them hold their labels ──
pub record Owning (w : List ℕ) (e s : ℕ) (ns : List ℕ) (holders₀ holders : List Holder) (a : ℕ) : Type 0 where
  pub so_far : HeldOwn w e s (take a ns) holders₀ holders

pub own_none : {w : List ℕ} {e s : ℕ} {ns : List ℕ} {holders : List Holder} → Owning w e s ns holders holders 0
unfolding slot_labels
own_none = record { so_far = record { kept = refl; all = λ hs c d u h. rw (append-nil hs) h } }

module _ {w : List ℕ} {e s : ℕ} {ns : List ℕ} {holders₀ holders : List Holder} {a : ℕ} (o : Owning w e s ns holders₀ holders a) where
  pub own_turn : a < length ns → length ns ≤ max_settings → {x : ℕ} → x ≡ label_at w e a → {holders' : List Holder} {r : Option ℕ}
      → HeldOne s x (get_or ns a 0) holders holders' r → Owning w e s ns holders₀ holders' (a + 1)
  own_turn l few {x} ex {holders'} h = record { so_far = record { kept = h.kept ∙ o.so_far.kept; all = more } }
    where
      front : length (take a ns) ≡ a
      front = length-take-le a ns (omega arith)

      long : length (take (a + 1) ns) ≡ suc a
      long = length-take-le (a + 1) ns (omega arith) ∙ add-one a

      next : take (a + 1) ns ≡ take a ns ++ get_or ns a 0 ∷ []
      next = ap (λ m. take m ns) (add-one a) ∙ take-suc ns a 0 l

      more : (hs : List Held) (c d u : List ℕ) → Holding hs s holders₀
          → Holding (hs ++ held (slot_labels (tables c d u w) e 0 0 (length (take (a + 1) ns))) (take (a + 1) ns)) s holders'
      more hs c d u q =
          let T = tables c d u w in
          let xs = slot_labels T e 0 0 a in
          let z : 0 + a ≡ a = omega arith in
          let m : 0 * max_settings + a ≡ a = omega arith in
          let y : label_in T e 0 (0 + a) ≡ x = ap (label_in T e 0) z ∙ sym (label_read T e 0 a (omega arith) (omega arith)) ∙ ap (label_at w e) m ∙ sym ex in
          let ls : slot_labels T e 0 0 (length (take (a + 1) ns)) ≡ xs ++ x ∷ []
          = ap (slot_labels T e 0 0) long ∙ slot_labels_more T e 0 0 a ∙ ap (λ t. xs ++ t ∷ []) y in
          let hd : held (slot_labels T e 0 0 (length (take (a + 1) ns))) (take (a + 1) ns) ≡ held xs (take a ns) ++ (x, get_or ns a 0) ∷ []
          = ap₂ held ls next ∙ held_append xs (x ∷ []) (take a ns) (get_or ns a 0 ∷ []) (slot_labels_long T e 0 0 a ∙ sym front) in
          let so_far : Holding (hs ++ held xs (take a ns)) s holders
          = subst (λ k. Holding (hs ++ held (slot_labels T e 0 0 k) (take a ns)) s holders) front (o.so_far.all hs c d u q) in
          let done = (h.more (hs ++ held xs (take a ns)) so_far).0 in
          rw (hd, ← append_assoc hs (held xs (take a ns)) ((x, get_or ns a 0) ∷ [])) done

  pub own_done : length ns ≤ a → HeldOwn w e s ns holders₀ holders
  own_done h = subst (λ t. HeldOwn w e s t holders₀ holders) (take_all a ns h) o.so_far

-- ── a slot whose settings get numbers: the first a of g₀ have theirs ──
pub record Slotting (w : List ℕ) (e slot s first : ℕ) (holders₀ : List Holder) (g₀ : List ℕ) (holders : List Holder) (g : List ℕ) (next a : ℕ) : Type 0 where
  pub few : next ≤ first + a
  pub kept : length holders ≡ length holders₀
  pub given : (hs : List Held) (c d u : List ℕ) → Holding hs s holders₀ →
      let xs = slot_labels (tables c d u w) e slot 0 a in
      Holding (hs ++ held xs (numbered hs first xs)) s holders × (next ≡ unused hs first xs) × (g ≡ numbered hs first xs ++ drop a g₀)

pub slot_none : {w : List ℕ} {e slot s first : ℕ} {holders : List Holder} {g : List ℕ} → Slotting w e slot s first holders g holders g first 0
unfolding slot_labels numbered unused
slot_none = record { few = omega arith; kept = refl; given = λ hs c d u h. (rw (append-nil hs) h, refl, refl) }

-- what one occurrence more was told: the number that it takes, and whether that is new
module _ (x next : ℕ) (ks : List Held) {r : Option ℕ} (e : r ≡ pick (holds x ks) (Some (holder x ks next)) None) where
  taken_number : unwrap_or r next ≡ holder x ks next
  taken_number = ap (λ o. unwrap_or o next) e ∙ go (holds x ks) refl
    where
      go : (b : Bool) → holds x ks ≡ b → unwrap_or (pick b (Some (holder x ks next)) None) next ≡ holder x ks next
      go true h = refl
      go false h = sym (holder_none x ks next h)

  was_held : is_some r ≡ holds x ks
  was_held = ap is_some e ∙ go (holds x ks)
    where
      go : (b : Bool) → is_some (pick b (Some (holder x ks next)) None) ≡ b
      go true = refl
      go false = refl

step_bounds : (b : Bool) (n : ℕ) → pick b n (suc n) ≤ n + 1
step_bounds true n = omega arith
step_bounds false n = omega arith

module _ {w : List ℕ} {e slot s first : ℕ} {holders₀ : List Holder} {g₀ : List ℕ} {holders : List Holder} {g : List ℕ} {next a : ℕ}
    (o : Slotting w e slot s first holders₀ g₀ holders g next a) where
  pub slot_turn : slot ≤ max_kids → length g₀ ≤ max_settings → a < length g₀ → {x : ℕ} → x ≡ label_at w e (slot * max_settings + a)
      → {holders' : List Holder} {r : Option ℕ} → HeldOne s x next holders holders' r → {v next' : ℕ} → v ≡ unwrap_or r next → next' ≡ pick (is_some r) next (suc next)
      → Slotting w e slot s first holders₀ g₀ holders' (set g a v) next' (a + 1)
  unfolding numbered unused
  slot_turn k l m {x} ex {holders'} {r} h {v} {next'} ev en' = record {
    few = omega (arith, o.few, step_bounds (is_some r) next, en');
    kept = h.kept ∙ o.kept;
    given = more;
  }
    where
      unfold_one : (hs : List Held) (n : ℕ) → (numbered hs n (x ∷ []) ≡ holder x hs n ∷ []) × (unused hs n (x ∷ []) ≡ pick (holds x hs) n (suc n))
      unfold_one hs n = (refl, refl)

      more : (hs : List Held) (c d u : List ℕ) → Holding hs s holders₀ →
          let xs = slot_labels (tables c d u w) e slot 0 (a + 1) in
          Holding (hs ++ held xs (numbered hs first xs)) s holders' × (next' ≡ unused hs first xs) × (set g a v ≡ numbered hs first xs ++ drop (a + 1) g₀)
      more hs c d u q =
          let T = tables c d u w in
          let xs = slot_labels T e slot 0 a in
          let (hold, en, eg) = o.given hs c d u q in
          let ks = holding hs first xs in
          let z : 0 + a ≡ a = omega arith in
          let y : label_in T e slot (0 + a) ≡ x = ap (label_in T e slot) z ∙ sym (label_read T e slot a k (omega arith)) ∙ sym ex in
          let ls : slot_labels T e slot 0 (a + 1) ≡ xs ++ x ∷ []
          = ap (slot_labels T e slot 0) (add-one a) ∙ slot_labels_more T e slot 0 a ∙ ap (λ t. xs ++ t ∷ []) y in
          let (hold', er) = h.more ks hold in
          let is : v ≡ holder x ks next = ev ∙ taken_number x next ks er in
          let hd : holding hs first (xs ++ x ∷ []) ≡ ks ++ (x, holder x ks next) ∷ []
          = holding_append hs first xs (x ∷ []) ∙ ap (λ t. ks ++ held (x ∷ []) t) ((unfold_one ks (unused hs first xs)).0 ∙ ap (λ t. holder x ks t ∷ []) (sym en)) in
          let un : next' ≡ unused hs first (xs ++ x ∷ [])
          = en' ∙ ap (λ b. pick b next (suc next)) (was_held x next ks er) ∙ ap (λ t. pick (holds x ks) t (suc t)) en ∙ sym (unfold_one ks (unused hs first xs)).1 ∙ sym (unused_append hs first xs (x ∷ [])) in
          let nu : numbered hs first (xs ++ x ∷ []) ≡ numbered hs first xs ++ v ∷ []
          = numbered_append hs first xs (x ∷ []) ∙ ap (λ t. numbered hs first xs ++ t)
          ((unfold_one ks (unused hs first xs)).0 ∙ ap (λ t. holder x ks t ∷ []) (sym en) ∙ ap (λ t. t ∷ []) (sym is)) in
          let long : length (numbered hs first xs) ≡ a = numbered_long hs first xs ∙ slot_labels_long T e slot 0 a in
          let gs : set g a v ≡ numbered hs first (xs ++ x ∷ []) ++ drop (a + 1) g₀
          = ap₂ (λ t i. set t i v) (eg ∙ ap (λ t. numbered hs first xs ++ t) (drop-cons g₀ a 0 m)) (sym long)
          ∙ set-append_seam (numbered hs first xs) (get_or g₀ a 0) (drop (suc a) g₀) v
          ∙ ap (λ i. numbered hs first xs ++ v ∷ drop i g₀) (sym (add-one a)) ∙ sym (append_assoc (numbered hs first xs) (v ∷ []) (drop (a + 1) g₀)) ∙ ap (λ t. t ++ drop (a + 1) g₀) (sym nu) in
          rw ls (rw hd (holding_taken ks x next hold'), un, gs)

  pub slot_done : a ≡ length g₀ → Slot w e slot s first holders₀ g₀ holders g next
  slot_done q =
      let o' : Slotting w e slot s first holders₀ g₀ holders g next (length g₀) = subst (λ n. Slotting w e slot s first holders₀ g₀ holders g next n) q o in
      record {
        few = o'.few;
        kept = o'.kept;
        given = λ hs c d u h.
            let (hold, en, eg) = o'.given hs c d u h in
            let xs = slot_labels (tables c d u w) e slot 0 (length g₀) in
            (hold, en, eg ∙ ap (λ t. numbered hs first xs ++ t) (drop-length g₀) ∙ append-nil (numbered hs first xs));
      }
