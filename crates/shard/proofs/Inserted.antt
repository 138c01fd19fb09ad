-- An insert as a whole, against the model's.
use Rattle.std.proofs.Common.{◌≡◌, ℕ, Bool, true, false, not, ◌&&◌, ltb, List, [], ◌∷◌, sym, refl, ap, ◌∙◌, subst, Ok, Err, Result, Option}
use Rattle.interface.specs.Meaning.{Keying, Life}
use Rattle.interface.specs.declared.refusal.Refusal.TheVariants.{NoFreeSlot}
use Rattle.settings.specs.Rules.{Limits}
use Rattle.settings.specs.Standing.{limits}
use Rattle.model.specs.Lists.{when}
use Rattle.model.specs.Entries as model
use Rattle.model.specs.Calls as calls
use Rattle.model.specs.Calls.{State, Answer, Outcome, Strategy, context, outside_edit, eventless, outcome, step}
use Rattle.model.specs.Standing.{Standing}
use Rattle.model.specs.Requests.{state_after, policy}
use Rattle.model.proofs.Lists.{when_both}
use Rattle.model.proofs.Lookup.{step_outside}
use Rattle.shard.specs.declared.strategy.InsertStrategy.{InsertStrategy}
use Rattle.shard.specs.declared.found.Found.{Found}
use Rattle.shard.specs.declared.layout.Layout.{Layout}
use Rattle.shard.specs.Finds.{AtItsPlace, Finds}
use Rattle.shard.specs.Depicts.{Depicts, Follows}
use Rattle.shard.specs.Replies.{strategy_of}
use Rattle.shard.specs.Arrivals.{as_spot, Coded, Stages, admitted, no_slot, TurnsAway, LetsIn}
use Rattle.shard.proofs.Coding.{lacks_is, coded}
use Rattle.shard.proofs.Calls.{same_content, resident_spot, Keeps}

module _ {S K V : Type 0} (weigh : K → V → ℕ) (l : Life S K V) (e : Keying K) where
  -- The model's outcome is answered, and is what the shard x' shows.
  abbrev pub Ends : Layout K V → S → S → State K V × Answer K V → Answer K V → Type 0
  Ends x' q q' o answer = (o.1 ≡ answer) × Stages l e x' q q' o.0

  pub inserted : (strategy : Strategy) (k : K) (v : V) (x x' : Layout K V) (answer : Answer K V) (q q' : S) → Keeps V e →
      ((n : ℕ) (s : State K V) → Depicts e x s → Ends x' q q' (calls.do_insert e strategy n k v (policy weigh l q) (eventless s)) answer) → Follows e l (calls.insert strategy k v (policy weigh l q)) x x' answer q q'
  inserted strategy k v x x' answer q q' keep f n s d =
      let c = calls.insert strategy k v (policy weigh l q) in
      let z = f n s d in
      let st : step e n c s ≡ outcome (outside_edit e n c (eventless s)) = step_outside e n c s d.edit in
      let after : Depicts e x' (eventless (outside_edit e n c (eventless s)).0) = record {
        places = z.1.places;
        shows = same_content [] z.1.shows;
        limits = z.1.limits;
        next = z.1.next;
        size = z.1.size;
        edit = z.1.edit;
        quiet = refl;
        standing = subst (λ (y : Outcome K V). Standing e y.state) st (keep n c s d.standing);
      } in
      (subst (λ (y : Outcome K V). Depicts e x' y.state) (sym st) after, ap (λ (y : Outcome K V). y.answer) st ∙ z.0, z.1.told ∙ ap (state_after l q) (sym (ap (λ (y : Outcome K V). y.events) st)))

  module _ (strategy : Strategy) (k : K) (v : V) (x : Layout K V) (q : S) (n : ℕ) (s : State K V) (d : Depicts e x s) where
    start : Stages l e x q q (eventless s)
    start = record { places = d.places; shows = same_content [] d.shows; told = refl; limits = d.limits; next = d.next; size = d.size; edit = d.edit }

    trimmed_stage : Stages l e x q (l.trim q k v).0 (calls.noted_in (model.trimmed n k v (l.trim q k v).1) (eventless s))
    trimmed_stage = record { places = d.places; shows = same_content (model.trimmed n k v (l.trim q k v).1 ∷ []) d.shows; told = refl; limits = d.limits; next = d.next; size = d.size; edit = d.edit }

    -- no slot is free
    pub no_slot_ends : calls.lacks_slot strategy (calls.search_for e k s) (eventless s) ≡ true → Ends x q q (calls.do_insert e strategy n k v (policy weigh l q) (eventless s)) (calls.returned NoFreeSlot v)
    no_slot_ends lacks =
        when_both _ _ _ (λ (o : State K V × Answer K V). Ends x q q o (calls.returned NoFreeSlot v))
        (λ _. (refl, record { places = d.places; shows = same_content (model.handed_back n v ∷ []) d.shows; told = refl; limits = d.limits; next = d.next; size = d.size; edit = d.edit }))
        (λ z. cc)

    abbrev too : Bool
    too = ltb s.limits.target (weigh k v) && not (l.pins k v)

    abbrev still : Bool
    still = ltb s.limits.target (weigh k (l.trim q k v).1)

    by_light : too ≡ false → admitted weigh l s.limits.target k v q ≡ (q, Ok (v, weigh k v))
    unfolding when
    by_light h = rw h

    by_trim : too ≡ true → still ≡ false → admitted weigh l s.limits.target k v q ≡ ((l.trim q k v).0, Ok ((l.trim q k v).1, weigh k (l.trim q k v).1))
    unfolding when
    by_trim h h' = rw (h, h')

    by_heavy : too ≡ true → still ≡ true → admitted weigh l s.limits.target k v q ≡ ((l.trim q k v).0, Err (l.trim q k v).1)
    unfolding when
    by_heavy h h' = rw (h, h')

    -- the state with other events
    abbrev told_of : List (model.Event K V) → State K V
    told_of es = calls.with_rings (record { hot = s.rings.hot; cold = s.rings.cold; off = s.rings.off; ghosts = s.rings.ghosts; events = es }) s

    -- the ways of an admission, by what it answers: P of each way in, and of each way out
    admits : {X : Type 0} (way_in way_out : V → State K V → X) (P : X → Type 0) (r : Result (V × ℕ) V) (q₁ : S) → r ≡ (admitted weigh l s.limits.target k v q).1 → q₁ ≡ (admitted weigh l s.limits.target k v q).0 →
        ((v' : V) (m : ℕ) (es : List (model.Event K V)) → r ≡ Ok (v', m) → Stages l e x q q₁ (told_of es) → P (way_in v' (told_of es))) →
        ((v' : V) (es : List (model.Event K V)) → r ≡ Err v' → Stages l e x q q₁ (told_of es) → P (way_out v' (told_of es))) →
        P (calls.admission (context e (policy weigh l q) s.limits) n k v (eventless s) way_in way_out)
    admits way_in way_out P r q₁ ir iq ins outs =
        let ev : model.Event K V = model.trimmed n k v (l.trim q k v).1 in
        when_both _ _ _ P
        (λ h. when_both _ _ _ P
        (λ h'. outs (l.trim q k v).1 (ev ∷ []) (ir ∙ ap (λ (o : S × Result (V × ℕ) V). o.1) (by_heavy h h')) (subst (λ (z : S). Stages l e x q z (told_of (ev ∷ []))) (sym (iq ∙ ap (λ (o : S × Result (V × ℕ) V). o.0) (by_heavy h h'))) trimmed_stage))
        (λ h'. ins (l.trim q k v).1 (weigh k (l.trim q k v).1) (ev ∷ []) (ir ∙ ap (λ (o : S × Result (V × ℕ) V). o.1) (by_trim h h')) (subst (λ (z : S). Stages l e x q z (told_of (ev ∷ []))) (sym (iq ∙ ap (λ (o : S × Result (V × ℕ) V). o.0) (by_trim h h'))) trimmed_stage)))
        (λ h. ins v (weigh k v) [] (ir ∙ ap (λ (o : S × Result (V × ℕ) V). o.1) (by_light h)) (subst (λ (z : S). Stages l e x q z (told_of [])) (sym (iq ∙ ap (λ (o : S × Result (V × ℕ) V). o.0) (by_light h))) start))

    module _ (x' : Layout K V) (answer : Answer K V) (q₁ q' : S) (found : Option (Found K V)) (finds : Finds e k x found) (has : calls.lacks_slot strategy (calls.search_for e k s) (eventless s) ≡ false) where
      pub let_in_ends : (hash : ℕ) (v' : V) (m : ℕ) → Ok (v', m) ≡ (admitted weigh l s.limits.target k v q).1 → q₁ ≡ (admitted weigh l s.limits.target k v q).0 → LetsIn weigh l strategy k hash v' found x x' answer q₁ q' → hash ≡ e.code k → Coded e k x found →
          Ends x' q q' (calls.do_insert e strategy n k v (policy weigh l q) (eventless s)) answer
      let_in_ends hash v' m ir iq lets code coded =
          when_both _ _ _ (λ (o : State K V × Answer K V). Ends x' q q' o answer)
          (λ z. cc)
          (λ _. admits (calls.insert_let_in e strategy n k (policy weigh l q)) (calls.insert_turn_away e strategy n k) (λ (o : State K V × Answer K V). Ends x' q q' o answer) (Ok (v', m)) q₁ ir iq
          (λ v'' m'' es is w.
          subst (λ (c : Limits). Ends x' q q' (calls.let_in strategy (context e (policy weigh l q) c) n k v'' (told_of es) (calls.search_for e k s)) answer) w.limits
          (subst (λ (u : V). Ends x' q q' (calls.let_in strategy (context e (policy weigh l q) (limits x.settings)) n k u (told_of es) (calls.search_for e k s)) answer) (let both : ◌≡◌ {A = V × ℕ} (v', m) (v'', m'') = cc in ap (λ (u : V × ℕ). u.0) both)
          (lets e n q (told_of es) w (calls.search_for e k s) (finds w.places (told_of es) w.shows d.standing.unique) coded code)))
          (λ v'' es is w. cc))

      pub turned_ends : (v' : V) → ◌≡◌ {A = Result (V × ℕ) V} (Err v') (admitted weigh l s.limits.target k v q).1 → q₁ ≡ (admitted weigh l s.limits.target k v q).0 → TurnsAway l strategy k v' found x x' answer q₁ q' →
          Ends x' q q' (calls.do_insert e strategy n k v (policy weigh l q) (eventless s)) answer
      turned_ends v' ir iq turns =
          when_both _ _ _ (λ (o : State K V × Answer K V). Ends x' q q' o answer)
          (λ z. cc)
          (λ _. admits (calls.insert_let_in e strategy n k (policy weigh l q)) (calls.insert_turn_away e strategy n k) (λ (o : State K V × Answer K V). Ends x' q q' o answer) (Err v') q₁ ir iq
          (λ v'' m'' es is w. cc)
          (λ v'' es is w.
          subst (λ (z : model.Spot K V). Ends x' q q' (calls.turned_away strategy n k v'' (calls.ousted z (told_of es))) answer) (sym (resident_spot e k s))
          (subst (λ (u : V). Ends x' q q' (calls.turned_away strategy n k u (calls.ousted (as_spot (calls.search_for e k s)) (told_of es))) answer) (cc)
          (turns e n q (told_of es) w (calls.search_for e k s) (finds w.places (told_of es) w.shows d.standing.unique)))))

-- ---- the weight of a record that fits
module _ {S K V : Type 0} (weigh : K → V → ℕ) (l : Life S K V) (k : K) where
  abbrev Weighed : Result (V × ℕ) V → Type 0
  Weighed (Ok u) = u.1 ≡ weigh k u.0
  Weighed (Err v) = Unit {0}

  weighed : (target : ℕ) (v : V) (q : S) → Weighed (admitted weigh l target k v q).1
  weighed target v q =
      when_both _ _ _ (λ (o : S × Result (V × ℕ) V). Weighed o.1)
      (λ _. when_both _ _ _ (λ (o : S × Result (V × ℕ) V). Weighed o.1) (λ _. tt) (λ _. refl))
      (λ _. refl)

  pub weight_is : (target : ℕ) (v : V) (q : S) (v' : V) (m : ℕ) → Ok (v', m) ≡ (admitted weigh l target k v q).1 → m ≡ weigh k v'
  weight_is target v q v' m is = subst Weighed (sym is) (weighed target v q)

-- ---- the three ways of an insert
module _ {S K V : Type 0} (weigh : K → V → ℕ) (l : Life S K V) (e : Keying K) (keep : Keeps V e) (i : InsertStrategy) (k : K) (v : V) (x : Layout K V) (q : S) (found : Option (Found K V)) (finds : Finds e k x found) where
  lacking : (n : ℕ) (s : State K V) (d : Depicts e x s) → calls.lacks_slot (strategy_of i) (calls.search_for e k s) (eventless s) ≡ no_slot i found x
  lacking n s d = lacks_is s d.shows d.size i found (calls.search_for e k s) (finds d.places s d.shows d.standing.unique)

  -- no slot is free,
  pub insert_refused : no_slot i found x ≡ true → Follows e l (calls.insert (strategy_of i) k v (policy weigh l q)) x x (calls.returned NoFreeSlot v) q q
  insert_refused full =
      inserted weigh l e (strategy_of i) k v x x (calls.returned NoFreeSlot v) q q keep
      (λ n s d. no_slot_ends weigh l e (strategy_of i) k v x q n s d (lacking n s d ∙ full))

  module _ (free : no_slot i found x ≡ false) (x' : Layout K V) (answer : Answer K V) (q₁ q' : S) (target : ℕ) (its : target ≡ (limits x.settings).target) (state : q₁ ≡ (admitted weigh l target k v q).0) where
    target_is : (s : State K V) → Depicts e x s → target ≡ s.limits.target
    target_is s d = its ∙ ap (λ (z : Limits). z.target) d.limits

    -- the record comes in,
    pub insert_taken : (hash : ℕ) (v' : V) (m : ℕ) → Ok (v', m) ≡ (admitted weigh l target k v q).1 → LetsIn weigh l (strategy_of i) k hash v' found x x' answer q₁ q' → hash ≡ e.code k →
        ((y z : K) → e.same y z ≡ true → e.code y ≡ e.code z) → AtItsPlace x found → Follows e l (calls.insert (strategy_of i) k v (policy weigh l q)) x x' answer q q'
    insert_taken hash v' m is lets code hashes place =
        inserted weigh l e (strategy_of i) k v x x' answer q q' keep
        (λ n s d. let_in_ends weigh l e (strategy_of i) k v x q n s d x' answer q₁ q' found finds (lacking n s d ∙ free) hash v' m
        (subst (λ (t : ℕ). Ok (v', m) ≡ (admitted weigh l t k v q).1) (target_is s d) is)
        (subst (λ (t : ℕ). q₁ ≡ (admitted weigh l t k v q).0) (target_is s d) state)
        lets code (coded e k s d.shows hashes found (finds d.places s d.shows d.standing.unique) place))

    -- or it is turned away.
    pub insert_turned : (v' : V) → ◌≡◌ {A = Result (V × ℕ) V} (Err v') (admitted weigh l target k v q).1 → TurnsAway l (strategy_of i) k v' found x x' answer q₁ q' → Follows e l (calls.insert (strategy_of i) k v (policy weigh l q)) x x' answer q q'
    insert_turned v' is turns =
        inserted weigh l e (strategy_of i) k v x x' answer q q' keep
        (λ n s d. turned_ends weigh l e (strategy_of i) k v x q n s d x' answer q₁ q' found finds (lacking n s d ∙ free) v'
        (subst (λ (t : ℕ). ◌≡◌ {A = Result (V × ℕ) V} (Err v') (admitted weigh l t k v q).1) (target_is s d) is)
        (subst (λ (t : ℕ). q₁ ≡ (admitted weigh l t k v q).0) (target_is s d) state)
        turns)
