-- What the writes of each call make of what a slab holds.
use Rattle.std.proofs.Common.{◌≡◌, ℕ, zero, suc, ◌+◌, ◌-◌, ◌<◌, ◌≤◌, true, List, [], ◌∷◌, ◌++◌, length, get_or, set, replicate, is_some, Some, None, Option, sym, refl, ap, ◌∙◌, subst, ⊎_elim, arith}
use Rattle.std.proofs.lemmas.List.{length-map, get_or-set_same, get_or-set_other}
use Rattle.std.proofs.lemmas.Bool.{cases_lt, cases_eq, both_ways}
use Rattle.ring_slab.specs.declared.slots.Slot.{Slot}
use Rattle.ring_slab.specs.Places.{look, one, count, count_in, head_of, front, rest, behind_first, without, upto}
use Rattle.ring_slab.specs.Slots.{buckets, chains, nexts, prevs, hashes, items, item_at, Columns}
use Rattle.ring_slab.specs.Rings.{Ring, KeptOff}
use Rattle.ring_slab.specs.Chains.{Chain, Ends, EndsIn, Table, bucket_of, chain, chain_in, home_of, Rechained}
use Rattle.ring_slab.specs.Holding.{Rings, Holds, SameLinks}
use Rattle.ring_slab.proofs.Counts.{one_at, one_off, count_append, count_head, count_less, count_without, count_behind, count_in_append}
use Rattle.ring_slab.proofs.Fields.{same_length}
use Rattle.ring_slab.proofs.Writes.{ring_turned}
use Rattle.ring_slab.proofs.Chains.{bucket_below, chain_frame, ends_from, count_upto, length_upto, chain_upto}
use Rattle.ring_slab.proofs.Tables.{other_chain, table_changed}
use Rattle.ring_slab.proofs.Holding.{rings_join, rings_split, rings_kept, rings_none, at_most, below, entered_used}

-- what has no value where another has none has none
none_from : {A B : Type 0} (o : Option A) (p : Option B) → is_some o ≡ is_some p → p ≡ None → o ≡ None
none_from None p e z = refl
none_from (Some x) p e z = absurd (both_ways true (e ∙ ap (λ y. is_some y) z) refl)

count_in_none : (k n : ℕ) → count_in k (replicate n []) ≡ 0
count_in_none k zero = refl
count_in_none k (suc n) = omega (arith, count_in_none k n)

module _ {T : Type 0} where
  -- ---- what stays, where some columns do
  same_table : (s s' : List (Slot T)) (entered : List ℕ) → length s' ≡ length s → buckets s' ≡ buckets s → chains s' ≡ chains s → hashes s' ≡ hashes s → Table (look (chains s)) (look (buckets s)) (length s) (home_of s) (λ k. count k entered) → Table (look (chains s')) (look (buckets s')) (length s') (home_of s') (λ k. count k entered)
  same_table s s' entered len bs cs hs t =
      let Tab : List ℕ → List ℕ → List ℕ → ℕ → Type 0 = λ c b h n. Table (look c) (look b) n (λ k. bucket_of (look h k) n) (λ k. count k entered) in
      subst (λ n. Tab (chains s') (buckets s') (hashes s') n) (sym len)
      (subst (λ h. Tab (chains s') (buckets s') h (length s)) (sym hs)
      (subst (λ b. Tab (chains s') b (hashes s) (length s)) (sym bs) (subst (λ c. Tab c (buckets s) (hashes s) (length s)) (sym cs) t)))

  same_links_off : (s s' : List (Slot T)) → nexts s' ≡ nexts s → prevs s' ≡ prevs s → KeptOff [] s s'
  same_links_off s s' ns ps k z = (ap (λ l. look l k) ns, ap (λ l. look l k) ps)

  same_rings : (s s' : List (Slot T)) (xss : List (List ℕ)) → length s' ≡ length s → nexts s' ≡ nexts s → prevs s' ≡ prevs s → ((k : ℕ) → count_in k xss ≤ 1) → Rings s xss → Rings s' xss
  same_rings s s' xss len ns ps once r = rings_kept s s' [] xss len (same_links_off s s' ns ps) (λ k. omega (arith, once k)) r

  same_free : (s s' : List (Slot T)) (free : ℕ) (vacant : List ℕ) → length s' ≡ length s → nexts s' ≡ nexts s → Chain (look (nexts s)) (length s) free vacant → Chain (look (nexts s')) (length s') free vacant
  same_free s s' free vacant len ns c =
      subst (λ e. Chain (look (nexts s')) e free vacant) (sym len) (subst (λ l. Chain (look l) (length s) free vacant) (sym ns) c)

  -- ---- items change
  pub same_links : {s s' : List (Slot T)} {free used : ℕ} {rings : List (List ℕ)} {loose vacant entered : List ℕ} → SameLinks s s' → Holds s free used rings loose vacant entered → Holds s' free used rings loose vacant entered
  same_links {s} {s'} {free} {used} {rings} {loose} {vacant} {entered} e w =
      record {
        each = same_rings s s' rings e.len e.nexts e.prevs (λ k. omega (arith, at_most w k)) w.each;
        freed = same_free s s' free vacant e.len e.nexts w.freed;
        place = λ k h. w.place k (omega (arith, e.len));
        beyond = λ k h. w.beyond k (omega (arith, e.len));
        empty = λ k h. none_from (item_at s' k) (item_at s k) (e.some k) (w.empty k h);
        full = λ k h z. e.some k ∙ w.full k (omega (arith, e.len)) z;
        table = same_table s s' entered e.len e.buckets e.chains e.hashes w.table;
        taken = w.taken;
        counted = omega (arith, e.len, w.counted);
        size = omega (arith, e.len, w.size);
      }

  -- ---- rings change: one ring becomes ys, and what it loses or gains the loose places gain or lose
  pub relinked : {s s' : List (Slot T)} {free used : ℕ} {loose vacant entered : List ℕ} (before after : List (List ℕ)) (xs ys zs loose' : List ℕ) → Holds s free used (before ++ xs ∷ after) loose vacant entered → Ring s' ys → KeptOff zs s s' → ((k : ℕ) → count k zs ≤ count k xs + count k loose) → ((k : ℕ) → count k ys + count k loose' ≡ count k xs + count k loose) → Columns s' (buckets s) (chains s) (nexts s') (prevs s') (hashes s) (items s) → Holds s' free used (before ++ ys ∷ after) loose' vacant entered
  relinked {s} {s'} {free} {used} {loose} {vacant} {entered} before after xs ys zs loose' w r kept part same o =
      let len = same_length (λ e. e.bucket) s s' o.buckets in
      let q = rings_split s before (xs ∷ after) w.each in
      let was : (k : ℕ) → count_in k (before ++ xs ∷ after) ≡ count_in k before + (count k xs + count_in k after) = λ k. count_in_append k before (xs ∷ after) in
      let now : (k : ℕ) → count_in k (before ++ ys ∷ after) ≡ count_in k before + (count k ys + count_in k after) = λ k. count_in_append k before (ys ∷ after) in
      record {
        each = rings_join s' before (ys ∷ after)
            (rings_kept s s' zs before len kept (λ k. omega (arith, was k, at_most w k, part k)) q.0)
            (r, rings_kept s s' zs after len kept (λ k. omega (arith, was k, at_most w k, part k)) q.1.1);
        freed = subst (λ e. Chain (look (nexts s')) e free vacant) (sym len)
            (chain_frame (look (nexts s)) (look (nexts s')) (length s) free vacant (λ k h. (kept k (omega (arith, was k, at_most w k, part k))).0) w.freed);
        place = λ k h. omega (arith, was k, now k, same k, w.place k (omega arith));
        beyond = λ k h. omega (arith, was k, now k, same k, w.beyond k (omega arith));
        empty = λ k h. ap (λ l. get_or l k None) o.items ∙ w.empty k h;
        full = λ k h z. ap (λ l. is_some (get_or l k None)) o.items ∙ w.full k (omega arith) z;
        table = same_table s s' entered len o.buckets o.chains o.hashes w.table;
        taken = λ k. omega (arith, was k, now k, same k, w.taken k);
        counted = omega (arith, w.counted);
        size = omega (arith, w.size);
      }

  -- ---- nothing changes
  -- a ring may be named from any of its places on
  pub rotated : {s : List (Slot T)} {free used : ℕ} {loose vacant entered : List ℕ} (before after : List (List ℕ)) (a b : List ℕ) → Holds s free used (before ++ (a ++ b) ∷ after) loose vacant entered → Holds s free used (before ++ (b ++ a) ∷ after) loose vacant entered
  rotated {s} {free} {used} {loose} {vacant} {entered} before after a b w =
      relinked before after (a ++ b) (b ++ a) [] loose w (ring_turned a b (rings_split s before ((a ++ b) ∷ after) w.each).1.0)
      (λ k z. (refl, refl)) (λ k. omega arith) (λ k. omega (arith, count_append k a b, count_append k b a))
      (record { buckets = refl; chains = refl; nexts = refl; prevs = refl; hashes = refl; items = refl })

  -- the loose and the entered places may be named in any order
  pub recounted : {s : List (Slot T)} {free used : ℕ} {rings : List (List ℕ)} {loose vacant entered : List ℕ} (loose' entered' : List ℕ) → ((k : ℕ) → count k loose' ≡ count k loose) → ((k : ℕ) → count k entered' ≡ count k entered) → Holds s free used rings loose vacant entered → Holds s free used rings loose' vacant entered'
  recounted loose' entered' ls es w =
      record {
        each = w.each;
        freed = w.freed;
        place = λ k h. omega (arith, ls k, w.place k h);
        beyond = λ k h. omega (arith, ls k, w.beyond k h);
        empty = w.empty;
        full = w.full;
        table = record {
          ends = w.table.ends;
          here = λ b k lb is. w.table.here b k lb is ∙ sym (es k);
          gone = w.table.gone;
        };
        taken = λ k. omega (arith, ls k, es k, w.taken k);
        counted = w.counted;
        size = w.size;
      }

  -- ---- a place is taken
  pub took : (s s' : List (Slot T)) (free used : ℕ) (rings : List (List ℕ)) (loose vacant entered : List ℕ) (item : T) → free < length s → Columns s' (buckets s) (chains s) (nexts s) (prevs s) (hashes s) (set (items s) free (Some item)) → Holds s free used rings loose vacant entered → (Some free ≡ head_of vacant) × Holds s' (look (nexts s) free) (used + 1) rings (front vacant ++ loose) (rest vacant) entered
  took s s' free used rings loose [] entered item lt o w = absurd (omega (arith, w.freed))
  took s s' free used rings loose (x ∷ vacant) entered item lt o w =
      let len = same_length (λ e. e.bucket) s s' o.buckets in
      let at : free ≡ x = w.freed.0 in
      let li : free < length (items s) = simp length-map lt in
      let same : (k : ℕ) → item_at s' k ≡ get_or (set (items s) free (Some item)) k None = λ k. ap (λ l. get_or l k None) o.items in
      let mine : item_at s' free ≡ Some item = same free ∙ get_or-set_same (items s) free (Some item) None li in
      let others : (k : ℕ) → (k ≡ free → ⊥) → item_at s' k ≡ item_at s k = λ k ne. same k ∙ get_or-set_other (items s) free k (Some item) None ne in (
        ap Some at,
        record {
          each = same_rings s s' rings len o.nexts o.prevs (λ k. omega (arith, at_most w k)) w.each;
          freed = subst (λ i. Chain (look (nexts s')) (length s') (look (nexts s) i) vacant) (sym at) (same_free s s' (look (nexts s) x) vacant len o.nexts w.freed.1);
          place = λ k h. omega (arith, w.place k (omega arith));
          beyond = λ k h. omega (arith, w.beyond k (omega arith));
          empty = λ k h. others k (λ e. omega (arith, at_most w k, one_at k x (e ∙ at))) ∙ w.empty k (omega arith);
          full = λ k h z. ⊎_elim
              (λ e. subst (λ i. is_some (item_at s' i) ≡ true) (sym e) (ap (λ z. is_some z) mine))
              (λ ne. ap (λ z. is_some z) (others k ne) ∙ w.full k (omega arith) (omega (arith, one_off k x (λ e. ne (e ∙ sym at)))))
              (cases_eq k free);
          table = same_table s s' entered len o.buckets o.chains o.hashes w.table;
          taken = λ k. omega (arith, w.taken k);
          counted = omega (arith, w.counted);
          size = omega (arith, w.size);
        },
      )

  pub took_none : (s : List (Slot T)) (free used : ℕ) (rings : List (List ℕ)) (loose vacant entered : List ℕ) → length s ≤ free → Holds s free used rings loose vacant entered → (None ≡ head_of vacant) × Holds s free used rings (front vacant ++ loose) (rest vacant) entered
  took_none s free used rings loose [] entered h w = (refl, w)
  took_none s free used rings loose (x ∷ vacant) entered h w = absurd (omega (arith, below w x (omega (arith, count_head x vacant)), w.freed.0))

  -- ---- a place is freed
  pub freed_place : (s s' : List (Slot T)) (free used at : ℕ) (rings : List (List ℕ)) (a b vacant entered : List ℕ) → 1 ≤ used → Columns s' (buckets s) (chains s) (set (nexts s) at free) (prevs s) (hashes s) (set (items s) at None) → Holds s free used rings (a ++ at ∷ b) vacant entered → count at entered ≡ 0 → Holds s' at (used - 1) rings (a ++ b) (at ∷ vacant) entered
  freed_place s s' free used at rings a b vacant entered one_used o w out =
      let len = same_length (λ e. e.bucket) s s' o.buckets in
      let less : (k : ℕ) → count k (a ++ at ∷ b) ≡ one k at + count k (a ++ b) = λ k. count_less k at a b in
      let lt : at < length s = below w at (omega (arith, less at, one_at at at refl)) in
      let li : at < length (items s) = simp length-map lt in
      let ln : at < length (nexts s) = simp length-map lt in
      let to : look (nexts s') at ≡ free = rw o.nexts (get_or-set_same (nexts s) at free 0 ln) in
      let kept : KeptOff (at ∷ []) s s' = λ k z. (rw o.nexts (get_or-set_other (nexts s) at k free 0 (λ e. omega (arith, one_at k at e))), ap (λ l. look l k) o.prevs) in
      let same : (k : ℕ) → item_at s' k ≡ get_or (set (items s) at None) k None = λ k. ap (λ l. get_or l k None) o.items in
      let mine : item_at s' at ≡ None = same at ∙ get_or-set_same (items s) at None None li in
      let others : (k : ℕ) → (k ≡ at → ⊥) → item_at s' k ≡ item_at s k = λ k ne. same k ∙ get_or-set_other (items s) at k None None ne in
      record {
        each = rings_kept s s' (at ∷ []) rings len kept (λ k. omega (arith, at_most w k, less k)) w.each;
        freed = (
          refl,
          subst (λ i. Chain (look (nexts s')) (length s') i vacant) (sym to)
              (subst (λ e. Chain (look (nexts s')) e free vacant) (sym len)
              (chain_frame (look (nexts s)) (look (nexts s')) (length s) free vacant (λ k h. (kept k (omega (arith, at_most w k, less k))).0) w.freed)),
        );
        place = λ k h. omega (arith, less k, w.place k (omega arith));
        beyond = λ k h. omega (arith, less k, w.beyond k (omega arith));
        empty = λ k h. ⊎_elim
            (λ e. subst (λ i. item_at s' i ≡ None) (sym e) mine)
            (λ ne. others k ne ∙ w.empty k (omega (arith, one_off k at ne)))
            (cases_eq k at);
        full = λ k h z. ap (λ z. is_some z) (others k (λ e. omega (arith, one_at k at e))) ∙ w.full k (omega arith) (omega arith);
        table = same_table s s' entered len o.buckets o.chains o.hashes w.table;
        taken = λ k. ⊎_elim
            (λ e. omega (arith, ap (λ z. count z entered) e))
            (λ ne. omega (arith, less k, one_off k at ne, w.taken k))
            (cases_eq k at);
        counted = omega (arith, w.counted);
        size = omega (arith, w.size);
      }

  -- ---- the chains change, and nothing else
  rechained : (s s' : List (Slot T)) (free used : ℕ) (rings : List (List ℕ)) (loose vacant entered entered' : List ℕ) → length s' ≡ length s → nexts s' ≡ nexts s → prevs s' ≡ prevs s → items s' ≡ items s → Table (look (chains s')) (look (buckets s')) (length s') (home_of s') (λ k. count k entered') → ((k : ℕ) → count k entered' ≤ count_in k rings + count k loose) → Holds s free used rings loose vacant entered → Holds s' free used rings loose vacant entered'
  rechained s s' free used rings loose vacant entered entered' len ns ps is table taken w =
      record {
        each = same_rings s s' rings len ns ps (λ k. omega (arith, at_most w k)) w.each;
        freed = same_free s s' free vacant len ns w.freed;
        place = λ k h. w.place k (omega arith);
        beyond = λ k h. w.beyond k (omega arith);
        empty = λ k h. ap (λ l. get_or l k None) is ∙ w.empty k h;
        full = λ k h z. ap (λ l. is_some (get_or l k None)) is ∙ w.full k (omega arith) z;
        table = table;
        taken = taken;
        counted = omega (arith, w.counted);
        size = omega (arith, w.size);
      }

  pub entered_place : (s s' : List (Slot T)) (free used at hash : ℕ) (rings : List (List ℕ)) (loose vacant entered : List ℕ) → at < length s → Columns s' (buckets s') (chains s') (nexts s) (prevs s) (set (hashes s) at hash) (items s) → (EndsIn s (bucket_of hash (length s)) → count at (chain_in s (bucket_of hash (length s))) ≡ 0 → Rechained s s' (bucket_of hash (length s)) at (behind_first at (chain_in s (bucket_of hash (length s))))) → Holds s free used rings loose vacant entered → count at vacant ≡ 0 → count at entered ≡ 0 → Holds s' free used rings loose vacant (at ∷ entered) × (chain_in s' (bucket_of hash (length s)) ≡ behind_first at (chain_in s (bucket_of hash (length s)))) × ((c : ℕ) → c < length s → (c ≡ bucket_of hash (length s) → ⊥) → chain_in s' c ≡ chain_in s c)
  entered_place s s' free used at hash rings loose vacant entered lt o R w free_not out =
      let len = same_length (λ e. e.next) s s' o.nexts in
      let n = length s in
      let b = bucket_of hash n in
      let ltb = bucket_below hash n (omega arith) in
      let none : (c : ℕ) → c < n → count at (chain_in s c) ≡ 0 = λ c lc. ⊎_elim (λ e. w.table.here c at lc e ∙ out) (λ ne. w.table.gone c at lc ne) (cases_eq (home_of s at) c) in
      let r = R (w.table.ends b ltb) (none b ltb) in
      let lh : at < length (hashes s) = simp length-map lt in
      let homes : (k : ℕ) → (k ≡ at → ⊥) → home_of s' k ≡ home_of s k = λ k ne. ap (λ m. bucket_of (look (hashes s') k) m) len ∙ ap (λ x. bucket_of x n) (rw o.hashes (get_or-set_other (hashes s) at k hash 0 ne)) in
      let mine : home_of s' at ≡ b = ap (λ m. bucket_of (look (hashes s') at) m) len ∙ ap (λ x. bucket_of x n) (rw o.hashes (get_or-set_same (hashes s) at hash 0 lh)) in
      let now : chain (look (chains s')) n (look (buckets s') b) ≡ behind_first at (chain_in s b) = subst (λ m. chain (look (chains s')) m (look (buckets s') b) ≡ behind_first at (chain_in s b)) len r.now in
      let ends : Ends (look (chains s')) n (look (buckets s') b) = subst (λ m. Ends (look (chains s')) m (look (buckets s') b)) len r.ends in
      let cnt : (k : ℕ) → count k (chain (look (chains s')) n (look (buckets s') b)) ≡ one k at + count k (chain_in s b) = λ k. ap (λ l. count k l) now ∙ count_behind k at (chain_in s b) in
      let same : (k : ℕ) → (k ≡ at → ⊥) → count k (at ∷ entered) ≡ count k entered = λ k ne. omega (arith, one_off k at ne) in
      let there : count at (chain (look (chains s')) n (look (buckets s') b)) ≡ count at (at ∷ entered) = omega (arith, cnt at, none b ltb) in
      let rest' : (k : ℕ) → (k ≡ at → ⊥) → count k (chain (look (chains s')) n (look (buckets s') b)) ≡ count k (chain_in s b) = λ k ne. omega (arith, cnt k, one_off k at ne) in
      let t = table_changed (look (chains s)) (look (chains s')) (look (buckets s)) (look (buckets s')) n (home_of s) (home_of s') (λ k. count k entered) (λ k. count k (at ∷ entered)) b at w.table ltb homes mine same (λ c lc ne. none c lc) ends there rest' r.kept r.heads in
      let off = other_chain (look (chains s)) (look (chains s')) (look (buckets s)) (look (buckets s')) n (home_of s) (home_of s') (λ k. count k entered) (λ k. count k (at ∷ entered)) b at w.table ltb homes mine same (λ c lc ne. none c lc) ends there rest' r.kept r.heads in (
        rechained s s' free used rings loose vacant entered (at ∷ entered) len o.nexts o.prevs o.items
            (subst (λ m. Table (look (chains s')) (look (buckets s')) m (home_of s') (λ k. count k (at ∷ entered))) (sym len) t)
            (λ k. ⊎_elim
            (λ e. subst (λ x. count x (at ∷ entered) ≤ count_in x rings + count x loose) (sym e) (omega (arith, out, free_not, w.place at lt, one_at at at refl)))
            (λ ne. omega (arith, one_off k at ne, w.taken k))
            (cases_eq k at))
            w,
        r.now,
        λ c lc ne. subst (λ m. chain (look (chains s')) m (look (buckets s') c) ≡ chain_in s c) (sym len) (off c lc ne).0,
      )

  pub left_place : (s s' : List (Slot T)) (free used at : ℕ) (rings : List (List ℕ)) (loose vacant a c : List ℕ) → Columns s' (buckets s') (chains s') (nexts s) (prevs s) (hashes s) (items s) → Rechained s s' (home_of s at) at (without at (chain_in s (home_of s at))) → Holds s free used rings loose vacant (a ++ at ∷ c) → Holds s' free used rings loose vacant (a ++ c) × (chain_in s' (home_of s at) ≡ without at (chain_in s (home_of s at))) × ((d : ℕ) → d < length s → (d ≡ home_of s at → ⊥) → chain_in s' d ≡ chain_in s d)
  left_place s s' free used at rings loose vacant a c o r w =
      let len = same_length (λ e. e.next) s s' o.nexts in
      let n = length s in
      let b = home_of s at in
      let less : (k : ℕ) → count k (a ++ at ∷ c) ≡ one k at + count k (a ++ c) = λ k. count_less k at a c in
      let lt : at < n = (entered_used w at (omega (arith, less at, one_at at at refl))).0 in
      let ltb = bucket_below (look (hashes s) at) n (omega arith) in
      let was : count at (chain_in s b) ≡ count at (a ++ at ∷ c) = w.table.here b at ltb refl in
      let homes : (k : ℕ) → home_of s' k ≡ home_of s k = λ k. ap (λ m. bucket_of (look (hashes s') k) m) len ∙ ap (λ l. bucket_of (look l k) n) o.hashes in
      let now : chain (look (chains s')) n (look (buckets s') b) ≡ without at (chain_in s b) = subst (λ m. chain (look (chains s')) m (look (buckets s') b) ≡ without at (chain_in s b)) len r.now in
      let ends : Ends (look (chains s')) n (look (buckets s') b) = subst (λ m. Ends (look (chains s')) m (look (buckets s') b)) len r.ends in
      let cnt : (k : ℕ) → one k at + count k (chain (look (chains s')) n (look (buckets s') b)) ≡ count k (chain_in s b) = λ k. ap (λ l. one k at + count k l) now ∙ count_without k at (chain_in s b) (omega (arith, was, less at, one_at at at refl)) in
      let only : (d : ℕ) → d < n → (d ≡ b → ⊥) → count at (chain_in s d) ≡ 0 = λ d ld ne. w.table.gone d at ld (λ e. ne (sym e)) in
      let same : (k : ℕ) → (k ≡ at → ⊥) → count k (a ++ c) ≡ count k (a ++ at ∷ c) = λ k ne. omega (arith, less k, one_off k at ne) in
      let there : count at (chain (look (chains s')) n (look (buckets s') b)) ≡ count at (a ++ c) = omega (arith, cnt at, was, less at, one_at at at refl) in
      let rest' : (k : ℕ) → (k ≡ at → ⊥) → count k (chain (look (chains s')) n (look (buckets s') b)) ≡ count k (chain_in s b) = λ k ne. omega (arith, cnt k, one_off k at ne) in
      let t = table_changed (look (chains s)) (look (chains s')) (look (buckets s)) (look (buckets s')) n (home_of s) (home_of s') (λ k. count k (a ++ at ∷ c)) (λ k. count k (a ++ c)) b at w.table ltb (λ k ne. homes k) (homes at) same only ends there rest' r.kept r.heads in
      let off = other_chain (look (chains s)) (look (chains s')) (look (buckets s)) (look (buckets s')) n (home_of s) (home_of s') (λ k. count k (a ++ at ∷ c)) (λ k. count k (a ++ c)) b at w.table ltb (λ k ne. homes k) (homes at) same only ends there rest' r.kept r.heads in (
        rechained s s' free used rings loose vacant (a ++ at ∷ c) (a ++ c) len o.nexts o.prevs o.items
            (subst (λ m. Table (look (chains s')) (look (buckets s')) m (home_of s') (λ k. count k (a ++ c))) (sym len) t)
            (λ k. omega (arith, less k, w.taken k))
            w,
        r.now,
        λ d ld ne. subst (λ m. chain (look (chains s')) m (look (buckets s') d) ≡ chain_in s d) (sym len) (off d ld ne).0,
      )

  -- ---- an item is written
  pub stored : (s s' : List (Slot T)) (free used at : ℕ) (rings : List (List ℕ)) (loose vacant entered : List ℕ) (item : T) → at < length s → Columns s' (buckets s) (chains s) (nexts s) (prevs s) (hashes s) (set (items s) at (Some item)) → Holds s free used rings loose vacant entered → count at vacant ≡ 0 → Holds s' free used rings loose vacant entered
  stored s s' free used at rings loose vacant entered item lt o w out =
      let li : at < length (items s) = simp length-map lt in
      let same : (k : ℕ) → item_at s' k ≡ get_or (set (items s) at (Some item)) k None = λ k. ap (λ l. get_or l k None) o.items in
      same_links
      (record {
        len = same_length (λ e. e.bucket) s s' o.buckets;
        buckets = o.buckets;
        chains = o.chains;
        nexts = o.nexts;
        prevs = o.prevs;
        hashes = o.hashes;
        some = λ k. ⊎_elim
            (λ e. subst (λ i. is_some (item_at s' i) ≡ is_some (item_at s i)) (sym e)
            (ap (λ z. is_some z) (same at ∙ get_or-set_same (items s) at (Some item) None li) ∙ sym (w.full at lt out)))
            (λ ne. ap (λ z. is_some z) (same k ∙ get_or-set_other (items s) at k (Some item) None ne))
            (cases_eq k at);
      })
      w

  -- ---- all is vacant
  pub fresh : (s : List (Slot T)) → length s ≤ 1048576 → ((k : ℕ) → k < length s → look (nexts s) k ≡ k + 1) → ((k : ℕ) → k < length s → look (buckets s) k ≡ length s) → ((k : ℕ) → k < length s → item_at s k ≡ None) → (n : ℕ) → Holds s 0 0 (replicate n []) [] (upto 0 (length s)) []
  fresh s small to heads none n =
      let e = length s in
      let some : (k : ℕ) → 1 ≤ count k (upto 0 e) → k < e = λ k h. ⊎_elim (λ l. l) (λ l. absurd (omega (arith, (count_upto k 0 e).0.1 (omega arith)))) (cases_lt k e) in
      let bucket : (b : ℕ) → b < e → (chain_in s b ≡ []) × Ends (look (chains s)) e (look (buckets s) b) = λ b lb. ends_from (look (chains s)) e (look (buckets s) b) [] (heads b lb) (λ k. omega arith) (λ k h. absurd (omega arith)) in
      record {
        each = rings_none s n;
        freed = chain_upto (look (nexts s)) e 0 e to (omega arith);
        place = λ k h. omega (arith, count_in_none k n, (count_upto k 0 e).1 (omega arith) (omega arith));
        beyond = λ k h. omega (arith, count_in_none k n, (count_upto k 0 e).0.1 (omega arith));
        empty = λ k h. none k (some k h);
        full = λ k h z. absurd (omega (arith, (count_upto k 0 e).1 (omega arith) (omega arith)));
        table = record {
          ends = λ b lb. (bucket b lb).1;
          here = λ b k lb is. ap (λ l. count k l) (bucket b lb).0;
          gone = λ b k lb no. ap (λ l. count k l) (bucket b lb).0;
        };
        taken = λ k. omega arith;
        counted = omega (arith, length_upto 0 e);
        size = small;
      }
