-- Gathering: the loop over a turn's codes, and the ways out of a call.
use mathlib.Core.Path.{◌≡◌, refl, sym, subst}
use mathlib.Core.Logic.{◌⊎◌, inl, inr, ◌↔◌, ⊎_elim}
use mathlib.Core.Bool.{Bool, true, false, ◌||◌}
use mathlib.Core.List.{List}
use Prim.Native.Nat.{ℕ, suc, ◌+◌, ◌≤◌, ◌<◌}
use native.Mathlib.Omega.{arith}
use lib.ListN.{length, get_or, set, take, length-take}
use Rattle.std.specs.Prelude.{Result, Ok, Err, OnOk}
use Rattle.std.proofs.lemmas.List.{get_or-take}
use Rattle.chains.specs.State.{code_on}
use Rattle.members.specs.Sets.{Has, Put}
use Rattle.tables.specs.Sets.{Over}
use Rattle.tables.specs.Memory.{Fine, Kept, Turned}
use Rattle.tables.specs.Seen.{Found, Stored}
use Rattle.tables.specs.declared.seen.Level.{Level}
use Rattle.tables.specs.Visit.{turn_of, size_of, code_of, chosen, Yields, Gathered, OldOr, Gathers, InOrder, Ready, Standing, Done, Request, Reply}
use Rattle.members.specs.declared.Full.{Full}
use Rattle.tables.specs.declared.visit.Visit.{Visit}
use Rattle.tables.proofs.Memory.{kept_refl, put_turned, turned_map}
use Rattle.tables.proofs.Rounds.{turned_done, Round, round_next, round_full}
use Rattle.tables.proofs.StatesSeen.{found_has, stored_map, remember_stored}
use Rattle.tables.proofs.Choosing.{ready_less, chosen_standing}

-- ---- what may stand in the sets, widened
module _ {n : ℕ} {P P' : ℕ → ℕ → Type 0} (wider : (k x : ℕ) → k < n → P k x → P' k x) where
  pub fine_widen : {s c : List ℕ} → Fine n P s c → Fine n P' s c
  fine_widen f = record { there = f.there; here = f.here; few = f.few; rising = f.rising; only = λ k x h m. wider k x h (f.only k x h m); blank = f.blank }

  over_widen : Over n P → Over n P'
  over_widen o = record { kind = o.kind; below = o.below; list = o.list; rising = o.rising; many = o.many; all = λ x m. wider o.kind x o.below (o.all x m) }

  pub turned_widen : {D : Type 0} {s c s' c' : List ℕ} (r : Result Bool Full) → Turned n P D s c s' c' r → Turned n P' D s c s' c' r
  turned_widen (Ok false) u = record { fine = fine_widen u.fine; kept = u.kept; case = u.case }
  turned_widen (Ok true) u = record { fine = fine_widen u.fine; kept = u.kept; case = u.case }
  turned_widen (Err e) u = record { fine = fine_widen u.fine; kept = u.kept; case = over_widen u.case }

-- sets in order hold what they hold
pub fine_own : {n : ℕ} {P : ℕ → ℕ → Type 0} {s c : List ℕ} → Fine n P s c → Fine n (Has s c) s c
fine_own f = record { there = f.there; here = f.here; few = f.few; rising = f.rising; only = λ k x h m. m; blank = f.blank }

-- what is gathered stays
pub gathered_stays : {n k : ℕ} {Q : ℕ → Type 0} {s c s' c' : List ℕ} → k < n → Kept n s c s' c' → Gathered k Q s c → Gathered k Q s' c'
gathered_stays {k = k} h u g x q = u.stays k x h (g x q)

-- the same things gathered, otherwise described
pub gathers_map : {k : ℕ} {Q Q' : ℕ → Type 0} {s c s' c' : List ℕ} {r : Result Bool Full} → ((x : ℕ) → Q x ↔ Q' x) → Gathers k Q s c s' c' r → Gathers k Q' s c s' c' r
gathers_map {r = r} e g n h f =
    turned_map r (λ d x q. d x ((e x).1 q)) (turned_widen (λ k x b o. ⊎_elim inl (λ (a, q). inr (a, (e x).0 q)) o) r (g n h f))

-- what holds anyway
on_ok : {A : Type 0} (r : Result Bool Full) → A → OnOk r A
on_ok (Ok b) x = x
on_ok (Err e) x = tt

-- what putting a code in asks, however many turns are left
pub enter_asks : {v : Visit} {j : ℕ} {u : List ℕ} {kept : List Level} {s c : List ℕ} → Request v j u kept s c → Ready v 0 × Standing v 0 u × InOrder v.kind s c
enter_asks {v} {u = u} q =
    let r = q.ready in
    let a : Ready v 0 = record {
      target = r.target;
      width = r.width;
      few = omega arith;
      slots = λ i h. absurd (omega arith);
      widths = λ i h. absurd (omega arith);
      sizes = λ i h. absurd (omega arith);
      apart = λ i k h g. absurd (omega arith);
    } in
    let b : Standing v 0 u = record { state = q.standing.state; looked_at = q.standing.looked_at; ahead = λ i h. absurd (omega arith) } in
    (a, b, q.order)

-- the codes of turn j
abbrev pub codes : Visit → ℕ → List ℕ
codes v j = take (size_of v j) (turn_of v j).codes

pub in_turn : (v : Visit) (j i : ℕ) → i < length (codes v j) → (get_or (codes v j) i 0 ≡ code_of v j i) × (i < size_of v j)
in_turn v j i h =
    let b : i < size_of v j = omega (arith, length-take (size_of v j) (turn_of v j).codes) in
    (get_or-take (size_of v j) (turn_of v j).codes i 0 b, b)

module _ (v : Visit) where
  done_stays : {n : ℕ} {s c s' c' : List ℕ} {kept : List Level} → v.kind < n → Kept n s c s' c' → Stored (Done v s c) kept → Stored (Done v s' c') kept
  done_stays h u t = stored_map (λ j w g x q. u.stays v.kind x h (g x q)) t

  -- ---- no turn is left
  pub reply_none : {u : List ℕ} {kept : List Level} {s c s' c' : List ℕ} (r : Result Bool Full) → Request v 0 u kept s c → Put v.kind (code_on v.target v.width u) s c s' c' r
      → Reply v 0 u s c kept s' c' r
  unfolding Yields
  reply_none {u} {kept} {s} {c} {s'} {c'} r q p = record {
    turned = turns;
    seen = on_ok r (let o = q.order in done_stays o.below (turns o.kinds o.below o.fine).kept q.seen);
  }
    where
      turns : (n : ℕ) → v.kind < n → Fine n (Has s c) s c
          → Turned n (OldOr s c v.kind (Yields v 0 u)) (Gathered v.kind (Yields v 0 u) s' c') s c s' c' r
      turns n h f = turned_map r (λ m x e. subst (Has s' c' v.kind) (sym e) m) (put_turned r (fine_widen (λ k x b m. inl m) f) h (inr (refl, refl)) p)

  module _ (j : ℕ) (u : List ℕ) where
    -- ---- the state was met before
    pub reply_known : {kept : List Level} {s c : List ℕ} → Request v (suc j) u kept s c → (d : Level) → Found (get_or kept (suc j) d) u
        → Reply v (suc j) u s c kept s c (Ok false)
    reply_known {kept} {s} {c} q d e = record {
      turned = λ n h f. record {
        fine = fine_widen (λ k x b m. inl m) f;
        kept = kept_refl n s c;
        case = (refl, refl, found_has q.seen (omega (arith, q.ready.few)) d e);
      };
      seen = q.seen;
    }

    -- ---- the loop over the codes of turn j
    -- all that comes of the i-th is in the set
    abbrev pub ChoiceIn : List ℕ → List ℕ → ℕ → Type 0
    ChoiceIn s c i = Gathered v.kind (Yields v j (chosen v j (code_of v j i) u)) s c

    pub record Looping (s₀ c₀ : List ℕ) (kept : List Level) (s c : List ℕ) (added : Bool) (i : ℕ) : Type 0 where
      pub round : (n : ℕ) → v.kind < n → Fine n (Has s₀ c₀) s₀ c₀ → Round n (OldOr s₀ c₀ v.kind (Yields v (suc j) u)) ChoiceIn s₀ c₀ s c added i
      pub seen : Stored (Done v s c) kept

    module _ {s₀ c₀ : List ℕ} {kept₀ kept : List Level} {s c : List ℕ} {a : Bool} {i : ℕ} (q : Request v (suc j) u kept₀ s₀ c₀) (h : Looping s₀ c₀ kept s c a i) where
      now_round : Round q.order.kinds (OldOr s₀ c₀ v.kind (Yields v (suc j) u)) ChoiceIn s₀ c₀ s c a i
      now_round = h.round q.order.kinds q.order.below q.order.fine

      module _ {w : List ℕ} (e : w ≡ chosen v j (code_of v j i) u) where
        pub loop_request : Request v j w kept s c
        loop_request = record {
          ready = ready_less q.ready;
          standing = rw e (chosen_standing q.ready q.standing (code_of v j i));
          order = record { kinds = q.order.kinds; below = q.order.below; fine = fine_own now_round.fine };
          seen = h.seen;
        }

        module _ {kept' : List Level} {s' c' : List ℕ} (l' : i < size_of v j) (r : Result Bool Full) (p : Reply v j w s c kept' s' c' r) where
          came : (x : ℕ) → Yields v j w x → Yields v (suc j) u x
          unfolding Yields
          came x y = (i, l', subst (λ w. Yields v j w x) e y)

          turn : (n : ℕ) → v.kind < n → Fine n (Has s₀ c₀) s₀ c₀
              → Turned n (OldOr s₀ c₀ v.kind (Yields v (suc j) u)) (ChoiceIn s' c' i) s c s' c' r
          turn n b f =
              let g = h.round n b f in
              turned_map r (λ d x y. d x (subst (λ w. Yields v j w x) (sym e) y))
              (turned_widen (λ k x m o. ⊎_elim (g.fine.only k x m) (λ (a, y). inr (a, came x y)) o) r (p.turned n b (fine_own g.fine)))

        -- one more
        pub loop_next : {kept' : List Level} {s' c' : List ℕ} (b : Bool) → i < size_of v j → Reply v j w s c kept' s' c' (Ok b) → Looping s₀ c₀ kept' s' c' (a || b) (i + 1)
        loop_next {kept'} b l' p = record {
          round = λ n m f. round_next ChoiceIn a b (λ s c s' c' i k d. gathered_stays m k d) (h.round n m f) (turn l' (Ok b) p n m f);
          seen = p.seen;
        }

        -- the last, where some set is over-full
        pub loop_full : {kept' : List Level} {s' c' : List ℕ} {o o' : Full} → i < size_of v j → Reply v j w s c kept' s' c' (Err o) → Reply v (suc j) u s₀ c₀ kept' s' c' (Err o')
        loop_full {o = o} l' p = record { turned = λ n b f. round_full (h.round n b f) (turn l' (Err o) p n b f); seen = tt }

      -- all are in
      module _ (past : size_of v j ≤ i) (d w : Level) (only : (x : List ℕ) → Found w x → (x ≡ u) ⊎ Found (get_or kept (suc j) d) x) where
        all_in : ((k : ℕ) → k < i → ChoiceIn s c k) → Gathered v.kind (Yields v (suc j) u) s c
        unfolding Yields
        all_in f x (k, b, y) = f k (omega arith) x y

        pub loop_end : Reply v (suc j) u s₀ c₀ (set kept (suc j) w) s c (Ok a)
        loop_end = record {
          turned = λ n b f. turned_map (Ok a) all_in (h.round n b f);
          seen = remember_stored h.seen (suc j) (omega (arith, q.ready.few)) u (all_in (turned_done a now_round)) d w only;
        }
