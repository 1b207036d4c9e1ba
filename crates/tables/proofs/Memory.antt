-- The sets while they are worked out: what a member put in leaves as it was, what it gains, and the loops of such steps.
use mathlib.Core.Path.{◌≡◌, refl, sym, ap, ◌∙◌, subst, subst₂}
use mathlib.Core.Logic.{⊎_elim}
use mathlib.Core.Bool.{Bool, true, false}
use mathlib.Core.List.{List}
use Prim.Native.Nat.{ℕ, suc, ◌+◌, ◌*◌, ◌≤◌, ◌<◌}
use native.Mathlib.Omega.{arith}
use native.Mathlib.Decide.{ℕ_discrete}
use lib.ListN.{length, get_or, length-set}
use Rattle.std.specs.Prelude.{Result, Ok, Err}
use lib.Seq.{get_or-set_same, get_or-set_other}
use Rattle.lists.specs.Rising.{Rising, insert}
use Rattle.lists.proofs.Order.{apart}
use Rattle.lists.proofs.Parts.{place_long, place_this, place_before, place_after, get_d_before, get_d_after}
use Rattle.lists.proofs.Rising.{insert_mem, insert_has, insert_keeps, insert_rising, insert_new}
use Rattle.lists.proofs.Places.{rising_whole}
use Rattle.lists.proofs.Room.{room_falls}
use Rattle.chains.specs.Limits.{max_members}
use Rattle.members.specs.Sets.{members, Has, member, Placed, Grown, Put}
use Rattle.tables.specs.Sets.{Over}
use Rattle.tables.specs.Memory.{Fine, Kept, Turned, room}
use Rattle.members.specs.declared.Full.{Full}
use Rattle.members.proofs.Ranked.{members_long}

-- ── what is in order ──
pub fine_placed : {n : ℕ} {P : ℕ → ℕ → Type 0} {s c : List ℕ} → Fine n P s c → (k : ℕ) → k < n → Placed s c k
fine_placed f k l = record { there = omega (arith, f.there); here = omega (arith, f.here); few = f.few k l }

pub kept_refl : (n : ℕ) (s c : List ℕ) → Kept n s c s c
kept_refl n s c = record {
  long = refl;
  long_c = refl;
  beyond = λ i h. refl;
  beyond_c = λ k h. refl;
  grows = λ k. omega arith;
  less = omega arith;
  stays = λ k x l h. h;
}

pub kept_trans : {n : ℕ} {s c s' c' s'' c'' : List ℕ} → Kept n s c s' c' → Kept n s' c' s'' c'' → Kept n s c s'' c''
kept_trans a b = record {
  long = b.long ∙ a.long;
  long_c = b.long_c ∙ a.long_c;
  beyond = λ i h. b.beyond i h ∙ a.beyond i h;
  beyond_c = λ k h. b.beyond_c k h ∙ a.beyond_c k h;
  grows = λ k. let u = a.grows k in let v = b.grows k in omega arith;
  less = let u = a.less in let v = b.less in omega arith;
  stays = λ k x l h. b.stays k x l (a.stays k x l h);
}

-- THEOREM: where a kind's count is what it was, so are its members
pub equal_counts : {n : ℕ} {P Q : ℕ → ℕ → Type 0} {s c s' c' : List ℕ} → Kept n s c s' c' → Fine n P s c → Fine n Q s' c'
    → (k : ℕ) → k < n → get_or c k 0 ≡ get_or c' k 0 → members s' c' k ≡ members s c k
equal_counts {s = s} {c} {s'} {c'} u f g k l e =
    sym (rising_whole (members s c k) (members s' c' k) (f.rising k l) (g.rising k l) (λ x h. u.stays k x l h)
    (members_long (fine_placed f k l) ∙ e ∙ sym (members_long (fine_placed g k l))))

-- ── one member more ──
-- a fact of every kind, from one of this kind and one of the others
pub every : (k : ℕ) (Q : ℕ → Type 0) → Q k → ((j : ℕ) → (j ≡ k → ⊥) → Q j) → (j : ℕ) → Q j
every k Q this others j = go (ℕ_discrete j k)
  where
    go : Dec (j ≡ k) → Q j
    go (yes e) = subst Q (sym e) this
    go (no d) = others j d

module _ {s c s' c' : List ℕ} {k x : ℕ} (p : Placed s c k) (r : Rising (members s c k)) (G : Grown k x s c s' c') where
  one_more : length (insert x (members s c k)) ≡ suc (get_or c k 0)
  one_more = insert_new x (members s c k) r G.new ∙ ap suc (members_long p)

  fits : k * max_members + length (insert x (members s c k)) ≤ length s
  fits = omega (arith, p.there, G.free, one_more)

  grown_long : length s' ≡ length s
  grown_long = ap length G.held ∙ place_long s (k * max_members) (insert x (members s c k)) fits

  this_count : get_or c' k 0 ≡ suc (get_or c k 0)
  this_count = ap (λ (u : List ℕ). get_or u k 0) G.counted ∙ get_or-set_same c k _ 0 p.here

  other_count : (j : ℕ) → (j ≡ k → ⊥) → get_or c' j 0 ≡ get_or c j 0
  other_count j d = ap (λ (u : List ℕ). get_or u j 0) G.counted ∙ get_or-set_other c k j _ 0 d

  this_set : members s' c' k ≡ insert x (members s c k)
  this_set = rw (this_count, ← one_more, G.held) (place_this s (k * max_members) (insert x (members s c k)) fits)

  other_set : (j : ℕ) → (j ≡ k → ⊥) → get_or c j 0 ≤ max_members → members s' c' j ≡ members s c j
  other_set j d few =
      rw (other_count j d, G.held)
      (⊎_elim
      (λ h. place_before s (k * max_members) (insert x (members s c k)) fits (j * max_members) (get_or c j 0) (omega arith))
      (λ h. place_after s (k * max_members) (insert x (members s c k)) fits (j * max_members) (get_or c j 0) (omega (arith, G.free, one_more)))
      (apart j k d))

  before : (i : ℕ) → i < k * max_members → get_or s' i 0 ≡ get_or s i 0
  before i h = ap (λ (u : List ℕ). get_or u i 0) G.held ∙ get_d_before s (k * max_members) (insert x (members s c k)) fits i 0 h

  after : (i : ℕ) → k * max_members + suc (get_or c k 0) ≤ i → get_or s' i 0 ≡ get_or s i 0
  after i h = ap (λ (u : List ℕ). get_or u i 0) G.held ∙ get_d_after s (k * max_members) (insert x (members s c k)) fits i 0 (omega (arith, one_more))

  other_place : (j i : ℕ) → (j ≡ k → ⊥) → i < max_members → member s' j i ≡ member s j i
  other_place j i d h =
      ⊎_elim (λ b. before (j * max_members + i) (omega arith)) (λ b. after (j * max_members + i) (omega (arith, G.free))) (apart j k d)

  falls : room c' < room c
  falls = rw G.counted (room_falls max_members c k (suc (get_or c k 0)) p.here (omega arith) (omega (arith, G.free)))

module _ {n : ℕ} {P : ℕ → ℕ → Type 0} {s c s' c' : List ℕ} {k x : ℕ} (f : Fine n P s c) (kn : k < n) (px : P k x) (G : Grown k x s c s' c') where
  placed : Placed s c k
  placed = fine_placed f k kn

  rises : Rising (members s c k)
  rises = f.rising k kn

  grown_fine : Fine n P s' c'
  grown_fine = record {
    there = rw (grown_long placed rises G) f.there;
    here = rw (G.counted, length-set) f.here;
    few = every k (λ j. j < n → get_or c' j 0 ≤ max_members) (λ h. omega (arith, this_count placed rises G, G.free)) (λ j d h. rw (other_count placed rises G j d) (f.few j h));
    rising = every k (λ j. j < n → Rising (members s' c' j)) (λ h. rw (this_set placed rises G) (insert_rising x (members s c k) rises))
        (λ j d h. rw (other_set placed rises G j d (f.few j h)) (f.rising j h));
    only = λ j y. every k (λ j. j < n → Has s' c' j y → P j y)
        (λ h m. ⊎_elim (λ e. subst (P k) (sym e) px) (λ o. f.only k y h o) (insert_mem x (members s c k) (rw (this_set placed rises G) at m)))
        (λ j d h m. f.only j y h (rw (other_set placed rises G j d (f.few j h)) at m)) j;
    blank = λ j i. every k (λ j. j < n → get_or c' j 0 ≤ i → i < max_members → member s' j i ≡ 0)
        (λ h l b. after placed rises G (k * max_members + i) (omega (arith, this_count placed rises G)) ∙ f.blank k i h (omega (arith, this_count placed rises G)) b)
        (λ j d h l b. other_place placed rises G j i d b ∙ f.blank j i h (omega (arith, other_count placed rises G j d)) b) j;
  }

  grown_kept : Kept n s c s' c'
  grown_kept = record {
    long = grown_long placed rises G;
    long_c = ap length G.counted ∙ length-set c k _;
    beyond = λ i h. after placed rises G i (omega (arith, G.free));
    beyond_c = λ j h. other_count placed rises G j (λ e. omega arith);
    grows = every k (λ j. get_or c j 0 ≤ get_or c' j 0) (omega (arith, this_count placed rises G)) (λ j d. omega (arith, other_count placed rises G j d));
    less = omega (arith, falls placed rises G);
    stays = λ j y. every k (λ j. j < n → Has s c j y → Has s' c' j y)
        (λ l m. rw (this_set placed rises G) (insert_keeps x (members s c k) m)) (λ j d l m. rw (other_set placed rises G j d (f.few j l)) m) j;
  }

  grown_has : Has s' c' k x
  grown_has = rw (this_set placed rises G) (insert_has x (members s c k))

-- a new one for which there is no place is the 65th
over_full : {n : ℕ} {P : ℕ → ℕ → Type 0} {s c : List ℕ} {k x : ℕ} → Fine n P s c → k < n → P k x → get_or c k 0 ≡ max_members → (Has s c k x → ⊥) → Over n P
over_full {n} {P} {s} {c} {k} {x} f h px e new = record {
  kind = k;
  below = h;
  list = insert x (members s c k);
  rising = insert_rising x (members s c k) (f.rising k h);
  many = insert_new x (members s c k) (f.rising k h) new ∙ ap suc (members_long (fine_placed f k h) ∙ e);
  all = λ y m. ⊎_elim (λ q. subst (P k) (sym q) px) (λ o. f.only k y h o) (insert_mem x (members s c k) m);
}

-- memory that is as it was
pub same_fine : {n : ℕ} {P : ℕ → ℕ → Type 0} {s c s' c' : List ℕ} → s' ≡ s → c' ≡ c → Fine n P s c → Fine n P s' c'
same_fine {n} {P} a b f = subst₂ (Fine n P) (sym a) (sym b) f

pub same_kept : {n : ℕ} {s c s' c' : List ℕ} → s' ≡ s → c' ≡ c → Kept n s c s' c'
same_kept {n} {s} {c} a b = subst₂ (Kept n s c) (sym a) (sym b) (kept_refl n s c)

-- THEOREM: what has P, put into its kind's set, is there afterwards, and all is in order; or there is one more than a set can hold
pub put_turned : {n : ℕ} {P : ℕ → ℕ → Type 0} {s c s' c' : List ℕ} {k x : ℕ} (r : Result Bool Full) → Fine n P s c → k < n → P k x → Put k x s c s' c' r
    → Turned n P (Has s' c' k x) s c s' c' r
put_turned {k = k} {x} (Ok false) f h px i =
    let (a, b, m) = (i.there (fine_placed f k h)).case in
    record { fine = same_fine a b f; kept = same_kept a b; case = (a, b, subst₂ (λ s c. Has s c k x) (sym a) (sym b) m) }
put_turned (Ok true) f h px i =
    let G = (i.there (fine_placed f _ h)).case in
    record { fine = grown_fine f h px G; kept = grown_kept f h px G; case = (falls (fine_placed f _ h) (f.rising _ h) G, grown_has f h px G) }
put_turned (Err e) f h px i =
    let (a, b, q, new) = (i.there (fine_placed f _ h)).case in
    record { fine = same_fine a b f; kept = same_kept a b; case = over_full f h px q new }

-- ── steps in a row ──
pub turned_map : {n : ℕ} {P : ℕ → ℕ → Type 0} {D E : Type 0} {s c s' c' : List ℕ} (r : Result Bool Full) → (D → E) → Turned n P D s c s' c' r → Turned n P E s c s' c' r
turned_map (Ok false) g u = let (a, b, d) = u.case in record { fine = u.fine; kept = u.kept; case = (a, b, g d) }
turned_map (Ok true) g u = let (a, d) = u.case in record { fine = u.fine; kept = u.kept; case = (a, g d) }
turned_map (Err e) g u = record { fine = u.fine; kept = u.kept; case = u.case }

-- what holds of the sets holds of them when they have grown
abbrev pub Lasts : ℕ → (List ℕ → List ℕ → ℕ → Type 0) → Type 0
Lasts n D = (s c s' c' : List ℕ) (i : ℕ) → Kept n s c s' c' → D s c i → D s' c' i
