-- The loops of the program and the model's loops under a count of turns.
use Rattle.std.proofs.Common.{◌≡◌, ℕ, zero, suc, ◌+◌, ◌-◌, ◌*◌, ◌<◌, ◌≤◌, Bool, true, false, ltb, List, length, sym, refl, ap, ◌∙◌, subst, arith}
use Rattle.std.proofs.lemmas.Bool.{lt-ltb, le-ltb}
use Rattle.interface.specs.Meaning.{Keying, Life}
use Rattle.settings.specs.Standing.{limits}
use Rattle.model.specs.Lists.{loop}
use Rattle.model.specs.Entries as model
use Rattle.model.specs.Hands.{Context, hot_hand, cold_hand, cool, shrink}
use Rattle.model.specs.Calls.{context}
use Rattle.model.specs.Requests.{state_after, policy}
use Rattle.model.proofs.Walks.{hot_answer, cold_answer}
use Rattle.shard.specs.declared.layout.Layout.{Layout}
use Rattle.shard.specs.Layout.{Places}
use Rattle.shard.specs.Shows.{Shows}
use Rattle.shard.specs.Steps.{context_of, FollowsHand, FollowsRings}
use Rattle.shard.proofs.Sums.{tally_weights}

-- ---- one turn of a loop, of which turns are left
module _ {X : Type 0} (test : X → Bool) (step : X → Bool × X) where
  loop_done : (m : ℕ) (x : X) → test x ≡ false → loop m test step x ≡ x
  loop_done zero x e = refl
  loop_done (suc m) x e = rw e

  loop_on : (n m : ℕ) (x : X) → n < m → test x ≡ true → (step x).0 ≡ true → loop m test step x ≡ loop (m - 1) test step (step x).1
  loop_on n zero x l e y = absurd (omega arith)
  loop_on n (suc m) x l e y = let i : m ≡ suc m - 1 = omega arith in rw (e, y) (ap (λ k. loop k test step (step x).1) i)

  loop_no : (n m : ℕ) (x : X) → n < m → test x ≡ true → (step x).0 ≡ false → loop m test step x ≡ (step x).1
  loop_no n zero x l e y = absurd (omega arith)
  loop_no n (suc m) x l e y = rw (e, y)

-- ---- A loop of the program under way: the model's loop, from where the program is, ends where it ends from the start.
module _ {S K V : Type 0} (weigh : K → V → ℕ) (l : Life S K V) (test : Context K V → model.Rings K V → Bool) (step : Context K V → model.Rings K V → Bool × model.Rings K V) (size : model.Rings K V → ℕ) where
  pub record Stage (e : Keying K) (s₀ : S) (x x' : Layout K V) (q' : S) (t : model.Rings K V) (ps : List (model.Placeholder K)) : Type 0 where
    pub places : Places
    pub rings : model.Rings K V
    pub turns : ℕ
    pub state : q' ≡ state_after l s₀ rings.events
    pub shows : Shows e x' places rings ps
    pub enough : size rings < turns
    pub rest : loop turns (test (context_of weigh l e x s₀)) (step (context_of weigh l e x s₀)) rings ≡ loop (suc (size t)) (test (context_of weigh l e x s₀)) (step (context_of weigh l e x s₀)) t

  abbrev pub Looping : Layout K V → Layout K V → S → S → Type 0
  Looping x x' q q' =
      (e : Keying K) (s₀ : S) (p : Places) (t : model.Rings K V) (ps : List (model.Placeholder K)) → q ≡ state_after l s₀ t.events → Shows e x p t ps → Stage e s₀ x x' q' t ps

  abbrev pub whole : Context K V → model.Rings K V → model.Rings K V
  whole u t = loop (suc (size t)) (test u) (step u) t

  -- the test, wherever the shard shows something
  abbrev pub Tests : Layout K V → Bool → Type 0
  Tests x b = (e : Keying K) (s₀ : S) (p : Places) (t : model.Rings K V) (ps : List (model.Placeholder K)) → Shows e x p t ps → test (context_of weigh l e x s₀) t ≡ b

  module _ (x x' : Layout K V) (q q' : S) (same : x'.settings ≡ x.settings) (m : Looping x x' q q') where
    same_context : (e : Keying K) (s₀ : S) → context_of weigh l e x' s₀ ≡ context_of weigh l e x s₀
    same_context e s₀ = ap (λ z. context e (policy weigh l s₀) (limits z)) same

    pub looping_done : Tests x' false → FollowsRings weigh l whole x x' q q'
    looping_done failed e s₀ p t ps qe s =
        let g = m e s₀ p t ps qe s in
        let u = context_of weigh l e x s₀ in
        let ended : g.rings ≡ whole u t = sym (loop_done (test u) (step u) g.turns g.rings (ap (λ c. test c g.rings) (sym (same_context e s₀)) ∙ failed e s₀ g.places g.rings ps g.shows)) ∙ g.rest in
        (g.state ∙ ap (λ z. state_after l s₀ z.events) ended, (g.places, subst (λ z. Shows e x' g.places z ps) ended g.shows))

    module _ (x'' : Layout K V) (q'' : S) (yes : Tests x' true) where
      -- the test and the step, of the context of x
      tested : (e : Keying K) (s₀ : S) (p : Places) (t : model.Rings K V) (ps : List (model.Placeholder K)) → Shows e x' p t ps → test (context_of weigh l e x s₀) t ≡ true
      tested e s₀ p t ps s = ap (λ c. test c t) (sym (same_context e s₀)) ∙ yes e s₀ p t ps s

      stepped : (answer : Bool) → FollowsHand weigh l step x' x'' answer q' q'' → (e : Keying K) (s₀ : S) (p : Places) (t : model.Rings K V) (ps : List (model.Placeholder K)) → q' ≡ state_after l s₀ t.events → Shows e x' p t ps →
          ((step (context_of weigh l e x s₀) t).0 ≡ answer) × (q'' ≡ state_after l s₀ (step (context_of weigh l e x s₀) t).1.events) × ((p' : Places) × Shows e x'' p' (step (context_of weigh l e x s₀) t).1 ps)
      stepped answer f e s₀ p t ps qe s =
          subst (λ c. ((step c t).0 ≡ answer) × (q'' ≡ state_after l s₀ (step c t).1.events) × ((p' : Places) × Shows e x'' p' (step c t).1 ps)) (same_context e s₀) (f e s₀ p t ps qe s)

      pub looping_no : FollowsHand weigh l step x' x'' false q' q'' → FollowsRings weigh l whole x x'' q q''
      looping_no f e s₀ p t ps qe s =
          let g = m e s₀ p t ps qe s in
          let u = context_of weigh l e x s₀ in
          let h = stepped false f e s₀ g.places g.rings ps g.state g.shows in
          let ended : (step u g.rings).1 ≡ whole u t = sym (loop_no (test u) (step u) (size g.rings) g.turns g.rings g.enough (tested e s₀ g.places g.rings ps g.shows) h.0) ∙ g.rest in
          (h.1 ∙ ap (λ z. state_after l s₀ z.events) ended, (h.2.0, subst (λ z. Shows e x'' h.2.0 z ps) ended h.2.1))

      pub looping_on : ((u : Context K V) (t : model.Rings K V) → (step u t).0 ≡ true → size (step u t).1 < size t) → FollowsHand weigh l step x' x'' true q' q'' → Looping x x'' q q''
      looping_on falls f e s₀ p t ps qe s =
          let g = m e s₀ p t ps qe s in
          let u = context_of weigh l e x s₀ in
          let h = stepped true f e s₀ g.places g.rings ps g.state g.shows in
          record {
            places = h.2.0;
            rings = (step u g.rings).1;
            turns = g.turns - 1;
            state = h.1;
            shows = h.2.1;
            enough = omega (arith, falls u g.rings h.0, g.enough);
            rest = sym (loop_on (test u) (step u) (size g.rings) g.turns g.rings g.enough (tested e s₀ g.places g.rings ps g.shows) h.0) ∙ g.rest;
          }

-- ---- the loops of the model
module _ {K V : Type 0} where
  abbrev pub hot_size : model.Rings K V → ℕ
  hot_size t = length t.hot

  abbrev pub above_target : Context K V → model.Rings K V → Bool
  above_target u t = ltb u.limits.target (model.weights t.hot)

  pub hot_falls : (u : Context K V) (t : model.Rings K V) → (hot_hand u t).0 ≡ true → hot_size (hot_hand u t).1 < hot_size t
  hot_falls u t e = ((hot_answer u t).yes' e).0

  abbrev pub both_size : model.Rings K V → ℕ
  both_size t = length t.hot + 2 * length t.cold

  abbrev pub above_capacity : ℕ → Context K V → model.Rings K V → Bool
  above_capacity coming u t = ltb u.limits.capacity (model.ring_weight t + coming)

  pub cold_falls : (u : Context K V) (t : model.Rings K V) → (cold_hand u t).0 ≡ true → both_size (cold_hand u t).1 < both_size t
  cold_falls u t e = (cold_answer u t).yes' e

module _ {S K V : Type 0} (weigh : K → V → ℕ) (l : Life S K V) (x x' : Layout K V) (q q' : S) where
  pub cool_is : FollowsRings weigh l (whole weigh l above_target hot_hand hot_size) x x' q q' → FollowsRings weigh l cool x x' q q'
  unfolding cool
  cool_is f = f

  pub shrink_is : (coming : ℕ) → FollowsRings weigh l (whole weigh l (above_capacity coming) cold_hand both_size) x x' q q' → FollowsRings weigh l (λ u t. shrink u coming t) x x' q q'
  unfolding shrink
  shrink_is coming f = f

-- ---- the program's tests are the model's
module _ {S K V : Type 0} (weigh : K → V → ℕ) (l : Life S K V) (x : Layout K V) where
  pub target_met : x.tally.hot_weight ≤ (limits x.settings).target → Tests weigh l above_target hot_hand hot_size x false
  target_met h e s₀ p t ps s = le-ltb (limits x.settings).target (model.weights t.hot) (omega (arith, (tally_weights e x p t ps s).0))

  pub target_missed : (limits x.settings).target < x.tally.hot_weight → Tests weigh l above_target hot_hand hot_size x true
  target_missed h e s₀ p t ps s = lt-ltb (limits x.settings).target (model.weights t.hot) (omega (arith, (tally_weights e x p t ps s).0))

  pub capacity_met : (coming : ℕ) → x.tally.hot_weight + x.tally.cold_weight + coming ≤ (limits x.settings).capacity → Tests weigh l (above_capacity coming) cold_hand both_size x false
  capacity_met coming h e s₀ p t ps s =
      let w = tally_weights e x p t ps s in
      le-ltb (limits x.settings).capacity (model.ring_weight t + coming) (omega (arith, w.0, w.1))

  pub capacity_missed : (coming : ℕ) → (limits x.settings).capacity < x.tally.hot_weight + x.tally.cold_weight + coming → Tests weigh l (above_capacity coming) cold_hand both_size x true
  capacity_missed coming h e s₀ p t ps s =
      let w = tally_weights e x p t ps s in
      lt-ltb (limits x.settings).capacity (model.ring_weight t + coming) (omega (arith, w.0, w.1))
