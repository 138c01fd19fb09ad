-- What follows of where the entries of a shard lie.
use Rattle.std.proofs.Common.{◌≡◌, ℕ, ◌+◌, ◌^◌, ◌<◌, ◌≤◌, true, List, [], ◌∷◌, ◌++◌, length, get_or, is_some, Some, None, Option, sym, refl, ap, ◌∙◌, subst, ⊎_elim, arith}
use Rattle.std.proofs.lemmas.List.{length-map, get_or_past}
use Rattle.std.proofs.lemmas.Bool.{cases_lt, cases_eq, both_ways}
use Rattle.ring_slab.specs.Places.{one, count, head_of, upto}
use Rattle.ring_slab.specs.Slots.{items}
use Rattle.ring_slab.specs.Rings as rings
use Rattle.ring_slab.specs.Rings.{ring_from}
use Rattle.ring_slab.specs.Holding.{Holds, SameLinks}
use Rattle.ring_slab.specs.declared.slots.Slot.{Slot}
use Rattle.ring_slab.proofs.Counts.{one_off, count_append, count_less}
use Rattle.ring_slab.proofs.Chains.{count_upto}
use Rattle.ring_slab.proofs.Holding as holding
use Rattle.ring_slab.proofs.Changes.{same_links}
use Rattle.shard.specs.declared.entry.Entry.{Entry}
use Rattle.shard.specs.declared.entry.Entry.TheVariants as E
use Rattle.shard.specs.declared.ring.Ring.{Ring}
use Rattle.shard.specs.declared.ring.RingName.{RingName}
use Rattle.shard.specs.declared.ring.RingName.TheVariants.{Hot, Cold, Ghosts}
use Rattle.shard.specs.declared.layout.Layout.{Layout}
use Rattle.shard.specs.Tallies.{recounted, hot_share, cold_share}
use Rattle.shard.specs.Layout.{Places, ring_at, loosed, used, Begins, Kind, in_ring, off_rings, free, kind_of, slots, entry_at, ring, Ranked, Counted, Stands, ring_places, vacant_places, elsewhere, places, Sound, SameEntries}
use Rattle.shard.proofs.Counts.{count_none_of, head_counts, head_none}
use Rattle.shard.proofs.Tallies.{Alike, recounted_same}

-- how often a place stands in all the lists together
abbrev pub everywhere : ℕ → Places → ℕ
everywhere k p = count k p.hot + count k p.cold + count k p.ghosts + count k p.hand + count k p.loose + count k p.vacant

pub count_used : (k : ℕ) (p : Places) → count k (used p) ≡ count k p.hot + count k p.cold + count k p.ghosts + count k p.hand + count k p.loose
count_used k p =
    omega (arith, count_append k p.hot (p.cold ++ (p.ghosts ++ (p.hand ++ p.loose))), count_append k p.cold (p.ghosts ++ (p.hand ++ p.loose)), count_append k p.ghosts (p.hand ++ p.loose), count_append k p.hand p.loose)

-- the kinds by number
abbrev pub kind_number : Kind → ℕ
kind_number (in_ring Hot) = 0
kind_number (in_ring Cold) = 1
kind_number (in_ring Ghosts) = 2
kind_number off_rings = 3
kind_number free = 4

-- what belongs in the ghosts' ring is a ghost
pub kind_ghost : {K V : Type 0} (o : Option (Entry K V)) → kind_of o ≡ in_ring Ghosts → o ≡ Some E.Ghost
kind_ghost o h = grind arith

module _ {T : Type 0} where
  -- the loose and the entered places are known by how often each stands among them
  pub recast : {s : List (Slot T)} {free used : ℕ} {rings : List (List ℕ)} {loose vacant entered : List ℕ} (loose' entered' : List ℕ) → Holds s free used rings loose vacant entered → ((k : ℕ) → count k loose' ≡ count k loose) → ((k : ℕ) → count k entered' ≡ count k entered) → Holds s free used rings loose' vacant entered'
  recast loose' entered' w ls es =
      record {
        each = w.each;
        freed = w.freed;
        place = λ k h. omega (arith, ls k, w.place k h);
        beyond = λ k h. omega (arith, ls k, w.beyond k h);
        empty = w.empty;
        full = w.full;
        table = record { ends = w.table.ends; here = λ b k h e. w.table.here b k h e ∙ sym (es k); gone = w.table.gone };
        taken = λ k. omega (arith, ls k, es k, w.taken k);
        counted = w.counted;
        size = w.size;
      }

  -- a ring of a shard is the walk along it
  walked : {s : List (Slot T)} (r : Ring) (xs : List ℕ) → Begins r xs → rings.Ring s xs → ring_from s r.head r.len ≡ xs
  walked {s} r xs b c = ap (λ h. ring_from s h r.len) b.head ∙ ap (λ n. ring_from s (head_of xs) n) b.len ∙ holding.ring_is xs c

module _ {K V : Type 0} where
  module _ {x : Layout K V} {p : Places} (w : Stands x p) where
    -- ---- each place in one list
    pub places_once : (k : ℕ) → k < length (slots x) → everywhere k p ≡ 1
    places_once k h = omega (arith, w.laid.held.place k h, count_append k p.hand p.loose)

    pub places_past : (k : ℕ) → length (slots x) ≤ k → everywhere k p ≡ 0
    places_past k h = omega (arith, w.laid.held.beyond k h, count_append k p.hand p.loose)

    pub places_most : (k : ℕ) → everywhere k p ≤ 1
    places_most k = ⊎_elim (λ h. omega (arith, places_once k h)) (λ h. omega (arith, places_past k h)) (cases_lt k (length (slots x)))

    pub places_below : (k : ℕ) → 1 ≤ everywhere k p → k < length (slots x)
    places_below k h = ⊎_elim (λ l. l) (λ l. absurd (omega (arith, places_past k l))) (cases_lt k (length (slots x)))

    pub size_bound : length (slots x) ≤ 1048576
    size_bound = w.laid.held.size

    -- ---- the lists are functions of the shard
    pub ring_is : (n : RingName) → ring_places n x ≡ ring_at n p
    ring_is Hot = walked x.hot p.hot w.laid.hot w.laid.held.each.0
    ring_is Cold = walked x.cold p.cold w.laid.cold w.laid.held.each.1.0
    ring_is Ghosts = walked x.ghosts p.ghosts w.laid.ghosts w.laid.held.each.1.1.0

    -- the head and the length that the shard keeps of a ring
    pub ring_begins : (n : RingName) → Begins (ring n x) (ring_at n p)
    ring_begins Hot = w.laid.hot
    ring_begins Cold = w.laid.cold
    ring_begins Ghosts = w.laid.ghosts

    pub head_there : (n : RingName) (at : ℕ) → (ring n x).head ≡ Some at → 1 ≤ count at (ring_at n p)
    head_there n at e = head_counts (ring_at n p) at (sym (ring_begins n).head ∙ e)

    -- the same of the ring as a function of the shard
    pub head_in_ring : (n : RingName) (at : ℕ) → (ring n x).head ≡ Some at → 1 ≤ count at (ring_places n x)
    head_in_ring n at e = omega (arith, head_there n at e, ap (count at) (ring_is n))

    pub headless : (n : RingName) → (ring n x).head ≡ None → ring_at n p ≡ []
    headless n e = head_none (ring_at n p) (sym (ring_begins n).head ∙ e)

    pub vacant_is : vacant_places x ≡ p.vacant
    vacant_is = (holding.vacant_is w.laid.held).0

    -- ---- which list a place is in
    pub entry_past : (k : ℕ) → length (slots x) ≤ k → entry_at x k ≡ None
    entry_past k h = get_or_past (items (slots x)) k None (omega (arith, length-map (slots x) (λ e. e.item)))

    pub vacant_none : (k : ℕ) → 1 ≤ count k p.vacant → entry_at x k ≡ None
    vacant_none k h = w.laid.held.empty k h

    -- a place with an entry is used
    pub entry_used : (k : ℕ) (e : Entry K V) → entry_at x k ≡ Some e → (k < length (slots x)) × (count k p.vacant ≡ 0)
    entry_used k e is =
        let some : entry_at x k ≡ None → ⊥ = λ z. both_ways true (ap is_some (sym is ∙ z)) refl in (
          ⊎_elim (λ l. l) (λ l. absurd (some (entry_past k l))) (cases_lt k (length (slots x))),
          ⊎_elim (λ l. omega arith) (λ l. absurd (some (vacant_none k l))) (cases_lt (count k p.vacant) 1),
        )

    -- a place is in no list of another kind
    off_hot : (k : ℕ) → (kind_number (kind_of (entry_at x k)) ≡ 0 → ⊥) → count k p.hot ≡ 0
    off_hot k ne = ⊎_elim (λ l. omega arith) (λ l. absurd (ne (ap kind_number (w.ranked.hot k l)))) (cases_lt (count k p.hot) 1)

    off_cold : (k : ℕ) → (kind_number (kind_of (entry_at x k)) ≡ 1 → ⊥) → count k p.cold ≡ 0
    off_cold k ne = ⊎_elim (λ l. omega arith) (λ l. absurd (ne (ap kind_number (w.ranked.cold k l)))) (cases_lt (count k p.cold) 1)

    off_ghosts : (k : ℕ) → (kind_number (kind_of (entry_at x k)) ≡ 2 → ⊥) → count k p.ghosts ≡ 0
    off_ghosts k ne = ⊎_elim (λ l. omega arith) (λ l. absurd (ne (ap kind_number (w.ranked.ghosts k l)))) (cases_lt (count k p.ghosts) 1)

    off_loose : (k : ℕ) → (kind_number (kind_of (entry_at x k)) ≡ 3 → ⊥) → count k p.loose ≡ 0
    off_loose k ne = ⊎_elim (λ l. omega arith) (λ l. absurd (ne (ap kind_number (w.ranked.loose k l)))) (cases_lt (count k p.loose) 1)

    off_vacant : (k : ℕ) → (kind_number (kind_of (entry_at x k)) ≡ 4 → ⊥) → (k < length (slots x)) × (count k p.vacant ≡ 0)
    off_vacant k ne = (
      ⊎_elim (λ l. l) (λ l. absurd (ne (ap (λ e. kind_number (kind_of e)) (entry_past k l)))) (cases_lt k (length (slots x))),
      ⊎_elim (λ l. omega arith) (λ l. absurd (ne (ap (λ e. kind_number (kind_of e)) (vacant_none k l)))) (cases_lt (count k p.vacant) 1),
    )

    -- an entry that belongs in a ring is there, unless it is in hand
    pub ring_by_kind : (n : RingName) (k : ℕ) → kind_of (entry_at x k) ≡ in_ring n → count k p.hand ≡ 0 → 1 ≤ count k (ring_at n p)
    ring_by_kind Hot k e z =
        let m = ap kind_number e in
        let v = off_vacant k (λ i. omega arith) in
        omega (arith, places_once k v.0, v.1, off_cold k (λ i. omega arith), off_ghosts k (λ i. omega arith), off_loose k (λ i. omega arith))
    ring_by_kind Cold k e z =
        let m = ap kind_number e in
        let v = off_vacant k (λ i. omega arith) in
        omega (arith, places_once k v.0, v.1, off_hot k (λ i. omega arith), off_ghosts k (λ i. omega arith), off_loose k (λ i. omega arith))
    ring_by_kind Ghosts k e z =
        let m = ap kind_number e in
        let v = off_vacant k (λ i. omega arith) in
        omega (arith, places_once k v.0, v.1, off_hot k (λ i. omega arith), off_cold k (λ i. omega arith), off_loose k (λ i. omega arith))

    -- one that belongs in none is loose, unless it is in hand
    pub loose_by_kind : (k : ℕ) → kind_of (entry_at x k) ≡ off_rings → count k p.hand ≡ 0 → 1 ≤ count k p.loose
    loose_by_kind k e z =
        let m = ap kind_number e in
        let v = off_vacant k (λ i. omega arith) in
        omega (arith, places_once k v.0, v.1, off_hot k (λ i. omega arith), off_cold k (λ i. omega arith), off_ghosts k (λ i. omega arith))

    -- what lies in a ring belongs there
    pub kind_in_ring : (n : RingName) (k : ℕ) → 1 ≤ count k (ring_at n p) → kind_of (entry_at x k) ≡ in_ring n
    kind_in_ring Hot k h = w.ranked.hot k h
    kind_in_ring Cold k h = w.ranked.cold k h
    kind_in_ring Ghosts k h = w.ranked.ghosts k h

    pub hand_below : (k : ℕ) → 1 ≤ count k p.hand → k < length (slots x)
    hand_below k h = places_below k (omega arith)

    pub vacant_below : (k : ℕ) → 1 ≤ count k p.vacant → k < length (slots x)
    vacant_below k h = places_below k (omega arith)

    -- ---- the loose places and what is in hand, in another order or shared out otherwise
    pub regrouped : (l h : List ℕ) → ((k : ℕ) → count k h + count k l ≡ count k p.hand + count k p.loose) → ((k : ℕ) → 1 ≤ count k l → kind_of (entry_at x k) ≡ off_rings) → Stands x (loosed l h p)
    regrouped l h same off =
        record {
          laid = record {
            held = recast (h ++ l) (used (loosed l h p)) w.laid.held
                (λ k. omega (arith, count_append k h l, count_append k p.hand p.loose, same k))
                (λ k. omega (arith, count_used k p, count_used k (loosed l h p), same k));
            hot = w.laid.hot;
            cold = w.laid.cold;
            ghosts = w.laid.ghosts;
          };
          ranked = record { hot = w.ranked.hot; cold = w.ranked.cold; ghosts = w.ranked.ghosts; loose = off };
          counted = w.counted;
        }

    -- a loose place is taken up
    pub pick_up : (at : ℕ) (a b : List ℕ) → p.hand ≡ [] → p.loose ≡ a ++ at ∷ b → Stands x (loosed (a ++ b) (at ∷ []) p)
    pick_up at a b none split =
        let less : (k : ℕ) → count k p.loose ≡ one k at + count k (a ++ b) = λ k. ap (count k) split ∙ count_less k at a b in
        regrouped (a ++ b) (at ∷ []) (λ k. omega (arith, less k, ap (count k) none)) (λ k h. w.ranked.loose k (omega (arith, less k)))

    -- what is in hand is laid down among the loose places
    pub lay_down : (at : ℕ) → p.hand ≡ at ∷ [] → kind_of (entry_at x at) ≡ off_rings → Stands x (loosed (at ∷ p.loose) [] p)
    lay_down at held off =
        regrouped (at ∷ p.loose) [] (λ k. omega (arith, ap (count k) held))
        (λ k h. ⊎_elim
        (λ e. subst (λ i. kind_of (entry_at x i) ≡ off_rings) (sym e) off)
        (λ ne. w.ranked.loose k (omega (arith, one_off k at ne)))
        (cases_eq k at))

    -- the loose places in another order
    pub same_loose : (l : List ℕ) → ((k : ℕ) → count k l ≡ count k p.loose) → Stands x (loosed l p.hand p)
    same_loose l same = regrouped l p.hand (λ k. omega (arith, same k)) (λ k h. w.ranked.loose k (omega (arith, same k)))

    -- ---- the places as functions of the shard
    pub loose_is : (k : ℕ) → count k (places x p.hand).loose ≡ count k p.loose
    loose_is k =
        let n = length (slots x) in
        let others = elsewhere x p.hand in
        let counted : count k others ≡ count k p.hot + count k p.cold + count k p.ghosts + count k p.hand + count k p.vacant =
        omega (
          arith,
          ap (count k) (ring_is Hot),
          ap (count k) (ring_is Cold),
          ap (count k) (ring_is Ghosts),
          ap (count k) vacant_is,
          count_append k (ring_places Hot x) (ring_places Cold x ++ (ring_places Ghosts x ++ (p.hand ++ vacant_places x))),
          count_append k (ring_places Cold x) (ring_places Ghosts x ++ (p.hand ++ vacant_places x)),
          count_append k (ring_places Ghosts x) (p.hand ++ vacant_places x),
          count_append k p.hand (vacant_places x),
        ) in
        let q = count_none_of k (upto 0 n) others in
        let u = count_upto k 0 n in
        ⊎_elim
        (λ l. ⊎_elim
        (λ z. omega (arith, counted, places_once k l, q.0 (omega arith), u.1 (omega arith) (omega arith)))
        (λ h. omega (arith, counted, places_once k l, q.1 h))
        (cases_lt (count k others) 1))
        (λ l. omega (arith, counted, places_past k l, q.0 (omega (arith, counted, places_past k l)), u.0.1 (omega arith)))
        (cases_lt k n)

    pub places_are : places x p.hand ≡ loosed (places x p.hand).loose p.hand p
    places_are = λ i. record { hot = ring_is Hot i; cold = ring_is Cold i; ghosts = ring_is Ghosts i; loose = (places x p.hand).loose; hand = p.hand; vacant = vacant_is i }

    pub stands_sound : Sound x p.hand
    stands_sound = subst (Stands x) (sym places_are) (same_loose (places x p.hand).loose loose_is)

    -- the same where it is known what is in hand
    pub sound_with : (h : List ℕ) → p.hand ≡ h → Sound x h
    sound_with h e = subst (Sound x) e stands_sound

  -- ---- the entries are as they were
  module _ {x x' : Layout K V} (e : SameEntries x x') where
    pub entry_same : (k : ℕ) → entry_at x' k ≡ entry_at x k
    entry_same k = ap (λ l. get_or l k None) e.items

    pub still_counted : Counted x → Counted x'
    still_counted w =
        record {
          tally = e.tally ∙ w.tally ∙ sym (ap recounted e.items);
          small = λ k. subst (λ o. (hot_share o < 2 ^ 32) × (cold_share o < 2 ^ 32)) (sym (entry_same k)) (w.small k);
        }

    pub still_ranked : {p : Places} → Ranked x p → Ranked x' p
    still_ranked w =
        record {
          hot = λ k h. ap kind_of (entry_same k) ∙ w.hot k h;
          cold = λ k h. ap kind_of (entry_same k) ∙ w.cold k h;
          ghosts = λ k h. ap kind_of (entry_same k) ∙ w.ghosts k h;
          loose = λ k h. ap kind_of (entry_same k) ∙ w.loose k h;
        }

  -- ---- entries change in place, and count for the same
  -- what a change of entries in place leaves
  pub record SameFrame (x x' : Layout K V) : Type 0 where
    pub links : SameLinks (slots x) (slots x')
    pub free : x'.slab.free ≡ x.slab.free
    pub used : x'.slab.used ≡ x.slab.used
    pub hot : x'.hot ≡ x.hot
    pub cold : x'.cold ≡ x.cold
    pub ghosts : x'.ghosts ≡ x.ghosts
    pub tally : x'.tally ≡ x.tally

  module _ {x x' : Layout K V} {p : Places} (f : SameFrame x x') (same : (k : ℕ) → Alike (entry_at x k) (entry_at x' k)) where
    pub touched : Stands x p → Stands x' p
    touched w =
        let rank : (k : ℕ) (n : Kind) → kind_of (entry_at x k) ≡ n → kind_of (entry_at x' k) ≡ n = λ k n h. (same k).kind ∙ h in
        let held : Holds (slots x') x.slab.free x.slab.used (p.hot ∷ p.cold ∷ p.ghosts ∷ []) (p.hand ++ p.loose) p.vacant (used p) = same_links f.links w.laid.held in
        record {
          laid = record {
            held = subst (λ m. Holds (slots x') m x'.slab.used (p.hot ∷ p.cold ∷ p.ghosts ∷ []) (p.hand ++ p.loose) p.vacant (used p)) (sym f.free)
                (subst (λ m. Holds (slots x') x.slab.free m (p.hot ∷ p.cold ∷ p.ghosts ∷ []) (p.hand ++ p.loose) p.vacant (used p)) (sym f.used) held);
            hot = subst (λ r. Begins r p.hot) (sym f.hot) w.laid.hot;
            cold = subst (λ r. Begins r p.cold) (sym f.cold) w.laid.cold;
            ghosts = subst (λ r. Begins r p.ghosts) (sym f.ghosts) w.laid.ghosts;
          };
          ranked = record {
            hot = λ k h. rank k (in_ring Hot) (w.ranked.hot k h);
            cold = λ k h. rank k (in_ring Cold) (w.ranked.cold k h);
            ghosts = λ k h. rank k (in_ring Ghosts) (w.ranked.ghosts k h);
            loose = λ k h. rank k off_rings (w.ranked.loose k h);
          };
          counted = record {
            tally = f.tally ∙ w.counted.tally ∙ sym (recounted_same (items (slots x)) (items (slots x')) (omega (arith, f.links.len, length-map (slots x) (λ e. e.item), length-map (slots x') (λ e. e.item))) same);
            small = λ k. (omega (arith, (same k).hot_share, (w.counted.small k).0), omega (arith, (same k).cold_share, (w.counted.small k).1));
          };
        }
