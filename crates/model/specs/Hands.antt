-- The two clock hands, and shrinking: how room is made.
use Rattle.std.specs.Prelude.{ℕ, zero, suc, ◌+◌, ◌*◌, Bool, true, false, cond, not, ◌||◌, List, [], ◌∷◌, ◌++◌, length, ◌==◌, nat_lt}
use Rattle.settings.specs.Rules.{Limits}
use Rattle.model.specs.Lists.{sum_of, every, mapped, tail, Pick, nothing, here, pick, when, loop}
use Rattle.model.specs.Entries.{Resident, Event, trimmed, hooked, Rings, hot_ring, cold_ring, put, put_ghosts, note, weights, ring_weight, less_read, promoted, reweighed, enter}

-- What a call brings: its weigher, and its lifecycle as what is pinned and what a trim makes of a record. A
-- trim may depend on the events of the call before it, newest first: a request state is folded over them.
pub record Policy (K V : Type 0) : Type 0 where
  pub weigh : K → V → ℕ
  pub pins : K → V → Bool
  pub trim : List (Event K V) → K → V → V

-- What the hands work with: what the call brings, the hash of a key, and the limits.
pub record Context (K V : Type 0) : Type 0 where
  pub weigh : K → V → ℕ
  pub pins : K → V → Bool
  pub trim : List (Event K V) → K → V → V
  pub code : K → ℕ
  pub limits : Limits

module _ {K V : Type 0} where
  -- does the call's lifecycle pin this resident?
  abbrev pub pinned : Context K V → Resident K V → Bool
  pinned u r = u.pins r.key r.val

  -- Leaving. An evicted cold resident leaves a ghost at the end; if there are then more than the bound, the
  -- oldest, the head, goes. A hot one leaves none.
  abbrev pub ghosts_after : Context K V → Bool → K → List ℕ → List ℕ
  ghosts_after u true k l = l
  ghosts_after u false k l = let m = l ++ (u.code k ∷ []) in cond (nat_lt u.limits.bound (length m)) (tail m) m

  -- r, out of its ring and trimmed, goes to its state's hook, unless it weighs nothing now: then it stays
  abbrev pub leave : Context K V → Resident K V → Rings K V → Rings K V
  leave u r t =
      when (r.weight == 0)
      (λ _. enter r t)
      (λ _. note (hooked r.hot r.number r.key r.val) (put_ghosts (ghosts_after u r.hot r.key t.ghosts) t))

  -- r, out of its ring, is trimmed and weighed, and leaves
  abbrev pub evict : Context K V → Resident K V → Rings K V → Rings K V
  evict u r t =
      let v = u.trim t.events r.key r.val in
      leave u (reweighed u.weigh v r) (note (trimmed r.number r.key r.val v) t)

  -- The hot hand walks from the head. One that has reads or is pinned is passed: it loses a read, if it has
  -- one, and goes to the end, so that its successor is the head. The walk stops at the first other, with
  -- those behind it; it takes as many steps as said at most.
  abbrev pub hot_walk : Context K V → ℕ → List (Resident K V) → Pick (Resident K V)
  hot_walk u zero l = nothing
  hot_walk u (suc m) [] = nothing
  hot_walk u (suc m) (r ∷ rs) =
      when (nat_lt 0 r.reads || pinned u r)
      (λ _. hot_walk u m (rs ++ (less_read r ∷ [])))
      (λ _. here [] r rs)

  -- steps enough for every read to be taken: a lap for each, and one more
  abbrev pub walk_steps : List (Resident K V) → ℕ
  walk_steps l = suc (sum_of (λ r. r.reads) l) * length l

  -- where the hot hand stops: nowhere in a ring that is empty or wholly pinned
  abbrev pub hot_stop : Context K V → List (Resident K V) → Pick (Resident K V)
  hot_stop u l = when (every (pinned u) l) (λ _. nothing) (λ _. hot_walk u (walk_steps l) l)

  -- the one at which it stops is evicted, and its successor is the head; where it stops nowhere, one lap has
  -- taken a read from each, and the answer is no
  abbrev pub hot_found : Context K V → Rings K V → Pick (Resident K V) → Bool × Rings K V
  hot_found u t nothing = (false, put hot_ring (mapped less_read t.hot) t)
  hot_found u t (here b r a) = (true, evict u r (put hot_ring (a ++ b) t))

  -- one step of the hot hand, and whether it let one go
  unfoldable pub hot_hand : Context K V → Rings K V → Bool × Rings K V
  hot_hand u t = hot_found u t (hot_stop u t.hot)

  -- the hot hand steps while the hot weight is above the target, until it answers no
  unfoldable pub cool : Context K V → Rings K V → Rings K V
  cool u t = loop (suc (length t.hot)) (λ x. nat_lt u.limits.target (weights x.hot)) (hot_hand u) t

  -- The cold hand walks from the head past those that are pinned and have no reads.
  abbrev pub cold_stop : Context K V → List (Resident K V) → Pick (Resident K V)
  cold_stop u l = pick (λ r. nat_lt 0 r.reads || not (pinned u r)) l

  -- The one at which it stops turns out. If it has reads, it is promoted, and the hot hand makes room for it;
  -- otherwise it is evicted. The answer is yes. Where it stops nowhere, the hot hand steps instead.
  abbrev pub cold_found : Context K V → Rings K V → Pick (Resident K V) → Bool × Rings K V
  cold_found u t nothing = hot_hand u t
  cold_found u t (here b r a) = (
    true,
    when (nat_lt 0 r.reads)
        (λ _. cool u (put hot_ring (t.hot ++ (promoted r ∷ [])) (put cold_ring (a ++ b) t)))
        (λ _. evict u r (put cold_ring (a ++ b) t)),
  )

  -- one step of the cold hand, and whether it moved one
  unfoldable pub cold_hand : Context K V → Rings K V → Bool × Rings K V
  cold_hand u t = cold_found u t (cold_stop u t.cold)

  -- Shrinking: the cold hand steps while the rings and the weight that is to come exceed the capacity, until
  -- it answers no.
  unfoldable pub shrink : Context K V → ℕ → Rings K V → Rings K V
  shrink u coming t = loop (suc (length t.hot + 2 * length t.cold)) (λ x. nat_lt u.limits.capacity (ring_weight x + coming)) (cold_hand u) t
