-- Tables that serve a grammar: the sets hold exactly what they should, the entries are those of the sets, and there is room for all of them.
use mathlib.Core.Path.{◌≡◌, refl, sym, ap, ap₂, ◌∙◌}
use mathlib.Core.List.{List, [], ◌∷◌, ◌++◌}
use Prim.Native.Nat.{ℕ, suc, ◌+◌, ◌*◌, ◌≤◌, ◌<◌}
use native.Mathlib.Omega.{arith}
use lib.ListN.{length, get_or, length-append, get_or-append}
use lib.Seq.{ext_get_or}
use Rattle.lists.specs.Part.{part}
use Rattle.lists.specs.Refusals.{accepted}
use Rattle.lists.proofs.Parts.{length_part, get_d_part}
use Rattle.lists.proofs.Rising.{pinned}
use Rattle.chains.specs.Limits.{max_members}
use Rattle.chains.specs.Grammar.{Grammar, Lawful}
use Rattle.chains.specs.Plausible.{Plausible}
use Rattle.chains.specs.Feasible.{Feasible, root}
use Rattle.chains.proofs.Feasible.{feasible_start}
use Rattle.book.specs.Format.{kinds, prods, grammar}
use Rattle.bookcheck.specs.Refusals as book
use Rattle.bookcheck.proofs.Accepted as accepted
use Rattle.ranks.specs.Entries.{Ranks, choice, up_entry, down_entry, entry_bytes, none}
use Rattle.ranks.proofs.Numbers.{up_entry_below, down_entry_below}
use Rattle.members.specs.Sets.{members, Has, member}
use Rattle.tables.specs.Entries.{picked, Downward, UpTable, DownEntry, DownTable}
use Rattle.tables.specs.Memory.{Fine}
use Rattle.tables.specs.Promise.{Lent, up_entries, down_entries, of_book, BuildDue}
use Rattle.members.proofs.Ranked.{members_long}
use Rattle.tables.proofs.Memory.{fine_placed}
use Rattle.tables.proofs.Holds.{holds_fine}
use Rattle.tables.proofs.Entries.{choices_same, kids_same, up_start_same, up_entries_same, down_start_same, down_entries_same}
use Rattle.tables.proofs.Promise.{plausible_there, plausible_here, feasible_there, feasible_here}
use Rattle.numbering.specs.Walk.{Tables}
use Rattle.claims.specs.Build.{LeftBy, tables_of}

-- s and f have the sets, T has the counts and the tables
pub record Served (G : Grammar) (s f : List ℕ) (T : Tables) : Type 0 where
  pub plausible : Fine G.kinds (Plausible G) s T.plausible_counts
  pub all_plausible : (k x : ℕ) → k < G.kinds → Plausible G k x → Has s T.plausible_counts k x
  pub feasible : Fine G.kinds (Feasible G) f T.feasible_counts
  pub all_feasible : (k x : ℕ) → k < G.kinds → Feasible G k x → Has f T.feasible_counts k x
  pub up : UpTable G s T.plausible_counts T.up
  pub up_room : up_entries G T.plausible_counts ≤ length T.up
  pub down : DownTable G s T.plausible_counts f T.feasible_counts T.down
  pub down_room : down_entries G T.plausible_counts T.feasible_counts * entry_bytes ≤ length T.down

-- ── a book to which no row applies is lawful ──
pub lawful_book : (b : List ℕ) → ((n p : ℕ) → book.Applies b n p → ⊥) → Lawful (grammar b)
lawful_book b free = (accepted.accepted_book b (kinds b) (prods b) (refl, λ f a. free f.0 f.1 a)).0.lawful

-- ── what an accepted build left serves its book's grammar ──
-- counts that agree on the kinds ks give the same number to a choice
choice_same : (c c' ks rs : List ℕ) → ((j : ℕ) → j < length ks → get_or c (get_or ks j 0) 0 ≡ get_or c' (get_or ks j 0) 0) → choice c ks rs ≡ choice c' ks rs
unfolding choice
choice_same c c' [] rs h = refl
choice_same c c' (k ∷ ks) [] h = refl
choice_same c c' (k ∷ ks) (r ∷ rs) h =
    ap₂ ◌+◌ (ap (λ t. r * t) (choices_same c c' ks (λ j l. h (suc j) (omega arith)))) (choice_same c c' ks rs (λ j l. h (suc j) (omega arith)))

ranks_same : (c c' ks rs : List ℕ) → ((j : ℕ) → j < length ks → get_or c (get_or ks j 0) 0 ≡ get_or c' (get_or ks j 0) 0) → Ranks c ks rs → Ranks c' ks rs
ranks_same c c' [] [] h m = tt
ranks_same c c' [] (r ∷ rs) h m = absurd m
ranks_same c c' (k ∷ ks) [] h m = absurd m
ranks_same c c' (k ∷ ks) (r ∷ rs) h m = (rw (← h 0 (omega arith)) m.0, ranks_same c c' ks rs (λ j l. h (suc j) (omega arith)) m.1)

-- sets are as fine by other counts that agree
fine_same : {n : ℕ} {P : ℕ → ℕ → Type 0} {s c c' : List ℕ} → n ≤ length c' → ((k : ℕ) → k < n → get_or c' k 0 ≡ get_or c k 0) → Fine n P s c → Fine n P s c'
fine_same {n} {P} {s} {c} {c'} here same f = record {
  there = f.there;
  here = here;
  few = λ k h. rw (same k h) (f.few k h);
  rising = λ k h. rw (same k h) (f.rising k h);
  only = λ k x h m. f.only k x h (rw (same k h) at m);
  blank = λ k i h l b. f.blank k i h (rw (same k h) at l) b;
}

-- a whole part of two lists that agree there is one part
part_same : (l l' : List ℕ) (base n : ℕ) → base + n ≤ length l → base + n ≤ length l' → ((i : ℕ) → i < n → get_or l (base + i) none ≡ get_or l' (base + i) none) → part base n l ≡ part base n l'
part_same l l' base n h h' same =
    ext_get_or none (part base n l) (part base n l') (length_part base n l h ∙ sym (length_part base n l' h'))
    (λ i k.
    let low : i < n = omega (arith, length_part base n l h) in
    get_d_part base n l i none low ∙ same i low ∙ sym (get_d_part base n l' i none low))

module _ {b : List ℕ} {m m' : Lent} {cs : List ℕ} (due : BuildDue b m (accepted cs) m') where
  pub built_lawful : Lawful (grammar b)
  built_lawful = lawful_book b (λ n p a. due.0 n p (of_book a))

  -- the memory itself has what the build left
  pub taken_whole : LeftBy (grammar b) m' (tables_of m')
  taken_whole =
      let (free, u) = due in
      record {
        plausible_here = rw u.plausible.long_c (plausible_here free);
        plausible_counts = λ k h. refl;
        feasible_here = rw u.feasible.long_c (feasible_here free);
        feasible_counts = λ k h. refl;
        up_room = rw u.up_rest.long u.up_fits;
        up = λ e h. refl;
        down_room = rw u.down_rest.long u.down_fits;
        down = λ i h. refl;
      }

  -- so has what begins with it, whatever tails follow
  pub taken_tails : (c₁ d₁ u₁ w₁ : List ℕ)
      → LeftBy (grammar b) m' (record { plausible_counts = m'.plausible_counts ++ c₁; feasible_counts = m'.feasible_counts ++ d₁; up = m'.up ++ u₁; down = m'.down ++ w₁ })
  taken_tails c₁ d₁ u₁ w₁ =
      let w = taken_whole in
      record {
        plausible_here = omega (arith, w.plausible_here, length-append m'.plausible_counts c₁);
        plausible_counts = λ k h. get_or-append m'.plausible_counts c₁ 0 k (omega (arith, w.plausible_here));
        feasible_here = omega (arith, w.feasible_here, length-append m'.feasible_counts d₁);
        feasible_counts = λ k h. get_or-append m'.feasible_counts d₁ 0 k (omega (arith, w.feasible_here));
        up_room = omega (arith, w.up_room, length-append m'.up u₁);
        up = λ e h. get_or-append m'.up u₁ none e (omega (arith, w.up_room));
        down_room = omega (arith, w.down_room, length-append m'.down w₁);
        down = λ i h. get_or-append m'.down w₁ none i (omega (arith, w.down_room));
      }

  module _ {T : Tables} (taken : LeftBy (grammar b) m' T) where
    abbrev G : Grammar
    G = grammar b

    abbrev c : List ℕ
    c = m'.plausible_counts

    abbrev d : List ℕ
    d = m'.feasible_counts

    kid_counts : (p : ℕ) → p < G.prods → (j : ℕ) → j < length (G.kids p) → get_or T.plausible_counts (get_or (G.kids p) j 0) 0 ≡ get_or c (get_or (G.kids p) j 0) 0
    kid_counts p there j l = taken.plausible_counts (get_or (G.kids p) j 0) (built_lawful.kids_in p j there l)

    ups : up_entries G T.plausible_counts ≡ up_entries G c
    ups = up_entries_same G (λ p j h l. built_lawful.kids_in p j h l) T.plausible_counts c taken.plausible_counts

    downs : down_entries G T.plausible_counts T.feasible_counts ≡ down_entries G c d
    downs =
        down_entries_same G (λ p j h l. built_lawful.kids_in p j h l) T.plausible_counts c taken.plausible_counts
        (λ p h. built_lawful.left_in p h) T.feasible_counts d taken.feasible_counts

    -- a down entry has the same number by these counts as by those of the build
    pub entry_taken : (p u : ℕ) (rs : List ℕ) → p < G.prods → down_entry G T.plausible_counts T.feasible_counts p u rs ≡ down_entry G c d p u rs
    entry_taken p u rs there =
        ap₂ ◌+◌ (down_start_same G (λ p j h l. built_lawful.kids_in p j h l) T.plausible_counts c taken.plausible_counts (λ p h. built_lawful.left_in p h)
        T.feasible_counts d taken.feasible_counts p (omega arith))
        (ap₂ ◌+◌ (ap (λ t. u * t) (kids_same G (λ p j h l. built_lawful.kids_in p j h l) T.plausible_counts c taken.plausible_counts p there))
        (choice_same T.plausible_counts c (G.kids p) rs (kid_counts p there)))

    up_taken : UpTable G m'.plausible T.plausible_counts T.up
    up_taken p rs there small =
        let small' = ranks_same T.plausible_counts c (G.kids p) rs (kid_counts p there) small in
        let e : up_entry G T.plausible_counts p rs ≡ up_entry G c p rs
        = ap₂ ◌+◌ (up_start_same G (λ p j h l. built_lawful.kids_in p j h l) T.plausible_counts c taken.plausible_counts p (omega arith))
        (choice_same T.plausible_counts c (G.kids p) rs (kid_counts p there)) in
        let byte = ap (λ i. get_or T.up i none) e ∙ taken.up (up_entry G c p rs) (up_entry_below G c p G.prods rs there small') in
        let r = due.1.up p rs there small' in
        record {
          below = rw (byte, taken.plausible_counts (G.left p) (built_lawful.left_in p there)) r.below;
          says = rw byte r.says;
        }

    down_taken : DownTable G m'.plausible T.plausible_counts m'.feasible T.feasible_counts T.down
    down_taken p u rs there low small =
        let small' = ranks_same T.plausible_counts c (G.kids p) rs (kid_counts p there) small in
        let low' : u < get_or d (G.left p) 0 = rw (taken.feasible_counts (G.left p) (built_lawful.left_in p there)) at low in
        let x = down_entry G c d p u rs in
        let e : down_entry G T.plausible_counts T.feasible_counts p u rs ≡ x = entry_taken p u rs there in
        let inside = down_entry_below G c d p G.prods u rs there low' small' in
        let whole : x * entry_bytes + entry_bytes ≤ down_entries G c d * entry_bytes = omega arith in
        let bytes : part (x * entry_bytes) entry_bytes T.down ≡ part (x * entry_bytes) entry_bytes m'.down
        = part_same T.down m'.down (x * entry_bytes) entry_bytes (omega (arith, taken.down_room)) (omega (arith, due.1.down_rest.long, due.1.down_fits))
        (λ i h. taken.down (x * entry_bytes + i) (omega arith)) in
        let r = due.1.down p u rs there low' small' in
        let r' : DownEntry G p m'.feasible T.feasible_counts (Downward G p (member m'.feasible (G.left p) u) (picked m'.plausible (G.kids p) rs)) (part (x * entry_bytes) entry_bytes m'.down)
        = record {
          blocks = r.blocks;
          ranks = λ j h. record {
            below = rw (taken.feasible_counts (get_or (G.kids p) j 0) (built_lawful.kids_in p j there h)) (r.ranks j h).below;
            says = (r.ranks j h).says;
          };
          rest = r.rest;
        } in
        rw (e, bytes) r'

    pub built_serves : Served G m'.plausible m'.feasible T
    built_serves =
        let (free, u) = due in
        record {
          plausible = fine_same taken.plausible_here taken.plausible_counts (holds_fine (plausible_there free) (plausible_here free) u.plausible);
          all_plausible = λ k x h p. rw (taken.plausible_counts k h) ((u.plausible.exactly k x h).1 p);
          feasible = fine_same taken.feasible_here taken.feasible_counts (holds_fine (feasible_there free) (feasible_here free) u.feasible);
          all_feasible = λ k x h p. rw (taken.feasible_counts k h) ((u.feasible.exactly k x h).1 p);
          up = up_taken;
          up_room = rw ups taken.up_room;
          down = down_taken;
          down_room = rw downs taken.down_room;
        }

-- ── the start has the same set twice ──
module _ {G : Grammar} (L : Lawful G) {s f : List ℕ} {T : Tables} (served : Served G s f T) where
  start_set : members s T.plausible_counts G.start ≡ members f T.feasible_counts G.start
  start_set =
      let h = L.start_in in
      pinned (Plausible G G.start) (members s T.plausible_counts G.start) (members f T.feasible_counts G.start)
      (served.plausible.rising G.start h) (served.feasible.rising G.start h)
      (λ x. served.plausible.only G.start x h) (λ x p. served.all_plausible G.start x h p)
      (λ x m. feasible_start G L G.start x refl (served.feasible.only G.start x h m)) (λ x p. served.all_feasible G.start x h (root p))

  pub start_count : get_or T.plausible_counts G.start 0 ≡ get_or T.feasible_counts G.start 0
  start_count =
      sym (members_long (fine_placed served.plausible G.start L.start_in)) ∙ ap length start_set ∙ members_long (fine_placed served.feasible G.start L.start_in)

  pub start_member : (r : ℕ) → r < get_or T.plausible_counts G.start 0 → member s G.start r ≡ member f G.start r
  start_member r h =
      sym (get_d_part (G.start * max_members) (get_or T.plausible_counts G.start 0) s r 0 h) ∙ ap (λ (u : List ℕ). get_or u r 0) start_set
      ∙ get_d_part (G.start * max_members) (get_or T.feasible_counts G.start 0) f r 0 (omega (arith, start_count))
