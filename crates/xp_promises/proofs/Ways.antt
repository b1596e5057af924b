-- One direction between two ends over all epochs of their contact. For each epoch stand the sender's and the receiver's side, as they are, or as they were when
-- the end left the epoch. The words in memory are those of the epoch that an end has opened; where it has opened none, they are nobody's.
use Rattle.std.proofs.Common.{◌≡◌, ℕ, ◌+◌, ◌<◌, ◌≤◌, Bool, true, false, cond, eqb, List, [], ◌∷◌, refl, ap, sym, ◌∙◌, subst, arith, inl, inr, ◌⊎◌}
use Rattle.std.proofs.lemmas.Bool.{cases_eq, eq-eqb, ne_eqb}
use Rattle.std.specs.Prelude.{◌*◌}
use Rattle.xp_base.specs.Entries.{lines}
use Rattle.xp_protocol.specs.Records.{Recorded}
use Rattle.xp_base.specs.declared.session.Session.{Session}
use Rattle.xp_protocol.specs.Promised.{Name, name_of, by_name}
use Rattle.xp_protocol.specs.Sending.{Sending}
use Rattle.xp_protocol.specs.Pulling.{Pulling}
use Rattle.xp_protocol.specs.Releasing.{Releasing}
use Rattle.xp_promises.proofs.Direction.{Out, In, Kept, NewOut, NewIn, new_kept}
use Rattle.xp_promises.proofs.Books.{Core, core, at, named, name_here, name_else}

-- what of an end a direction reads where it receives
pub record InSide : Type 0 where
  pub pull : Pulling
  pub ack : Releasing
  pub stored : ℕ

abbrev pub out_of : ℕ → (ℕ → ℕ) → Recorded → Sending → Out
out_of put entry r s = record { send = s; accepted = r.accepted; put = put; entry = entry }

abbrev pub in_of : ℕ → Recorded → InSide → In
in_of get r i = record { pull = i.pull; ack = i.ack; stored = i.stored; taken = r.taken; acked = r.acked; get = get }

-- how many epochs an end has opened or left
abbrev pub reach : ℕ → Bool → ℕ
reach epoch opened = cond opened (epoch + 1) epoch

-- a direction: by the epoch its entries n and its limit; the sender's put and entries, the receiver's get; the records of both; the epochs of both, and whether they are opened; their sides
pub record Way (u v : Session) (put : ℕ) (entry : ℕ → ℕ) (get : ℕ) (rs ss : List Recorded) (ea eb : ℕ) (oa ob : Bool) (s : Sending) (i : InSide) : Type 0 where
  pub n : ℕ → ℕ
  pub limit : ℕ → ℕ
  pub out : ℕ → Out
  pub inn : ℕ → In
  pub kept : (e : ℕ) → Kept (out e) (inn e)
  pub out_live : oa ≡ true → out ea ≡ out_of put entry (named u v ea rs) s
  pub in_live : ob ≡ true → inn eb ≡ in_of get (named v u eb ss) i
  pub new : (e : ℕ) → (reach ea oa ≤ e) ⊎ (reach eb ob ≤ e) → NewOut (n e) (limit e) (out e) × NewIn (n e) (limit e) (inn e)
  pub accepted : (e : ℕ) → (out e).accepted ≡ (named u v e rs).accepted
  pub taken : (e : ℕ) → (inn e).taken ≡ (named v u e ss).taken
  pub acked : (e : ℕ) → (inn e).acked ≡ (named v u e ss).acked

abbrev at_epoch : {A : Type 0} → (ℕ → A) → ℕ → A → ℕ → A
at_epoch f e x = λ k. cond (eqb e k) x (f k)

at_here : {A : Type 0} (f : ℕ → A) (e : ℕ) (x : A) → at_epoch f e x e ≡ x
at_here f e x = rw (eq-eqb e e refl) refl

at_else : {A : Type 0} (f : ℕ → A) (e k : ℕ) (x : A) → (e ≡ k → ⊥) → at_epoch f e x k ≡ f k
at_else f e k x d = rw (ne_eqb e k d) refl

-- what holds of all, where one is replaced
at_each : {A : Type 0} (P : ℕ → A → Type 0) (f : ℕ → A) (e : ℕ) (x : A) → P e x → ((k : ℕ) → (e ≡ k → ⊥) → P k (f k)) → (k : ℕ) → P k (at_epoch f e x k)
at_each P f e x here each k = by (cases_eq e k) where
  by : (e ≡ k) ⊎ (e ≡ k → ⊥) → P k (at_epoch f e x k)
  by (inl d) = rw (eq-eqb e k d) (subst (λ (j : ℕ). P j x) d here)
  by (inr d) = rw (ne_eqb e k d) (each k d)

pub reach_less : (e : ℕ) (o : Bool) → reach e o ≤ e + 1
reach_less e true = omega arith
reach_less e false = omega arith

-- the sender's side of its epoch is replaced: the epoch is opened from now on
pub set_out : (u v : Session) (put : ℕ) (entry : ℕ → ℕ) (get : ℕ) (rs ss : List Recorded) (ea eb : ℕ) (oa ob : Bool) (s : Sending) (i : InSide) (put' : ℕ) (entry' : ℕ → ℕ) (rs' : List Recorded) (s' : Sending) →
    (w : Way u v put entry get rs ss ea eb oa ob s i) → (let o = out_of put' entry' (named u v ea rs') s' in Kept o (w.inn ea) → ((reach eb ob ≤ ea) → NewOut (w.n ea) (w.limit ea) o) → ((e : ℕ) → (ea ≡ e → ⊥) → (named u v e rs').accepted ≡ (named u v e rs).accepted) →
    Way u v put' entry' get rs' ss ea eb true ob s' i)
set_out u v put entry get rs ss ea eb oa ob s i put' entry' rs' s' w kept new other =
    let o = out_of put' entry' (named u v ea rs') s' in
    record {
      n = w.n;
      limit = w.limit;
      out = at_epoch w.out ea o;
      inn = w.inn;
      kept = at_each (λ (k : ℕ) (z : Out). Kept z (w.inn k)) w.out ea o kept (λ k d. w.kept k);
      out_live = λ d. at_here w.out ea o;
      in_live = w.in_live;
      new = at_each (λ (k : ℕ) (z : Out). (ea + 1 ≤ k) ⊎ (reach eb ob ≤ k) → NewOut (w.n k) (w.limit k) z × NewIn (w.n k) (w.limit k) (w.inn k)) w.out ea o (λ h. first h) (λ k d h. later k h);
      accepted = at_each (λ (k : ℕ) (z : Out). z.accepted ≡ (named u v k rs').accepted) w.out ea o refl (λ k d. w.accepted k ∙ sym (other k d));
      taken = w.taken;
      acked = w.acked;
    }
  where
    first : (ea + 1 ≤ ea) ⊎ (reach eb ob ≤ ea) → NewOut (w.n ea) (w.limit ea) (out_of put' entry' (named u v ea rs') s') × NewIn (w.n ea) (w.limit ea) (w.inn ea)
    first (inl h) = absurd (omega (arith, h))
    first (inr h) = (new h, (w.new ea (inr h)).1)

    later : (k : ℕ) → (ea + 1 ≤ k) ⊎ (reach eb ob ≤ k) → NewOut (w.n k) (w.limit k) (w.out k) × NewIn (w.n k) (w.limit k) (w.inn k)
    later k (inl h) = w.new k (inl (omega (arith, h, reach_less ea oa)))
    later k (inr h) = w.new k (inr h)

pub set_in : (u v : Session) (put : ℕ) (entry : ℕ → ℕ) (get : ℕ) (rs ss : List Recorded) (ea eb : ℕ) (oa ob : Bool) (s : Sending) (i : InSide) (get' : ℕ) (ss' : List Recorded) (i' : InSide) →
    (w : Way u v put entry get rs ss ea eb oa ob s i) → (let z = in_of get' (named v u eb ss') i' in Kept (w.out eb) z → ((reach ea oa ≤ eb) → NewIn (w.n eb) (w.limit eb) z) → ((e : ℕ) → (eb ≡ e → ⊥) → core (named v u e ss') ≡ core (named v u e ss)) →
    Way u v put entry get' rs ss' ea eb oa true s i')
set_in u v put entry get rs ss ea eb oa ob s i get' ss' i' w kept new other =
    let z = in_of get' (named v u eb ss') i' in
    record {
      n = w.n;
      limit = w.limit;
      out = w.out;
      inn = at_epoch w.inn eb z;
      kept = at_each (λ (k : ℕ) (x : In). Kept (w.out k) x) w.inn eb z kept (λ k d. w.kept k);
      out_live = w.out_live;
      in_live = λ d. at_here w.inn eb z;
      new = at_each (λ (k : ℕ) (x : In). (reach ea oa ≤ k) ⊎ (eb + 1 ≤ k) → NewOut (w.n k) (w.limit k) (w.out k) × NewIn (w.n k) (w.limit k) x) w.inn eb z (λ h. first h) (λ k d h. later k h);
      accepted = w.accepted;
      taken = at_each (λ (k : ℕ) (x : In). x.taken ≡ (named v u k ss').taken) w.inn eb z refl (λ k d. w.taken k ∙ sym (ap (λ (c : Core). c.taken) (other k d)));
      acked = at_each (λ (k : ℕ) (x : In). x.acked ≡ (named v u k ss').acked) w.inn eb z refl (λ k d. w.acked k ∙ sym (ap (λ (c : Core). c.acked) (other k d)));
    }
  where
    first : (reach ea oa ≤ eb) ⊎ (eb + 1 ≤ eb) → NewOut (w.n eb) (w.limit eb) (w.out eb) × NewIn (w.n eb) (w.limit eb) (in_of get' (named v u eb ss') i')
    first (inl h) = ((w.new eb (inl h)).0, new h)
    first (inr h) = absurd (omega (arith, h))

    later : (k : ℕ) → (reach ea oa ≤ k) ⊎ (eb + 1 ≤ k) → NewOut (w.n k) (w.limit k) (w.out k) × NewIn (w.n k) (w.limit k) (w.inn k)
    later k (inl h) = w.new k (inl h)
    later k (inr h) = w.new k (inr (omega (arith, h, reach_less eb ob)))

-- an end that hasn't opened its epoch: its words and its side are nobody's
pub free_out : (u v : Session) (put : ℕ) (entry : ℕ → ℕ) (get : ℕ) (rs ss : List Recorded) (ea eb : ℕ) (oa ob : Bool) (s : Sending) (i : InSide) (put' : ℕ) (entry' : ℕ → ℕ) (s' : Sending) → oa ≡ false →
    Way u v put entry get rs ss ea eb oa ob s i → Way u v put' entry' get rs ss ea eb oa ob s' i
free_out u v put entry get rs ss ea eb oa ob s i put' entry' s' off w =
    record { n = w.n; limit = w.limit; out = w.out; inn = w.inn; kept = w.kept; out_live = λ d. absurd (cc); in_live = w.in_live; new = w.new; accepted = w.accepted; taken = w.taken; acked = w.acked }

pub free_in : (u v : Session) (put : ℕ) (entry : ℕ → ℕ) (get : ℕ) (rs ss : List Recorded) (ea eb : ℕ) (oa ob : Bool) (s : Sending) (i : InSide) (get' : ℕ) (i' : InSide) → ob ≡ false →
    Way u v put entry get rs ss ea eb oa ob s i → Way u v put entry get' rs ss ea eb oa ob s i'
free_in u v put entry get rs ss ea eb oa ob s i get' i' off w =
    record { n = w.n; limit = w.limit; out = w.out; inn = w.inn; kept = w.kept; out_live = w.out_live; in_live = λ d. absurd (cc); new = w.new; accepted = w.accepted; taken = w.taken; acked = w.acked }

-- an end leaves its epoch: its side stays as it was last
pub left_out : (u v : Session) (put : ℕ) (entry : ℕ → ℕ) (get : ℕ) (rs ss : List Recorded) (ea eb : ℕ) (oa ob : Bool) (s s' : Sending) (i : InSide) →
    Way u v put entry get rs ss ea eb oa ob s i → Way u v put entry get rs ss (ea + 1) eb false ob s' i
left_out u v put entry get rs ss ea eb oa ob s s' i w =
    record { n = w.n; limit = w.limit; out = w.out; inn = w.inn; kept = w.kept; out_live = λ d. absurd (cc); in_live = w.in_live; new = λ e h. by e h; accepted = w.accepted; taken = w.taken; acked = w.acked }
  where
    by : (e : ℕ) → (ea + 1 ≤ e) ⊎ (reach eb ob ≤ e) → NewOut (w.n e) (w.limit e) (w.out e) × NewIn (w.n e) (w.limit e) (w.inn e)
    by e (inl h) = w.new e (inl (omega (arith, h, reach_less ea oa)))
    by e (inr h) = w.new e (inr h)

pub left_in : (u v : Session) (put : ℕ) (entry : ℕ → ℕ) (get : ℕ) (rs ss : List Recorded) (ea eb : ℕ) (oa ob : Bool) (s : Sending) (i i' : InSide) →
    Way u v put entry get rs ss ea eb oa ob s i → Way u v put entry get rs ss ea (eb + 1) oa false s i'
left_in u v put entry get rs ss ea eb oa ob s i i' w =
    record { n = w.n; limit = w.limit; out = w.out; inn = w.inn; kept = w.kept; out_live = w.out_live; in_live = λ d. absurd (cc); new = λ e h. by e h; accepted = w.accepted; taken = w.taken; acked = w.acked }
  where
    by : (e : ℕ) → (reach ea oa ≤ e) ⊎ (eb + 1 ≤ e) → NewOut (w.n e) (w.limit e) (w.out e) × NewIn (w.n e) (w.limit e) (w.inn e)
    by e (inl h) = w.new e (inl h)
    by e (inr h) = w.new e (inr (omega (arith, h, reach_less eb ob)))

-- notes that directions don't read
pub noted_out : (u v : Session) (put : ℕ) (entry : ℕ → ℕ) (get : ℕ) (rs ss : List Recorded) (ea eb : ℕ) (oa ob : Bool) (s : Sending) (i : InSide) (rs' : List Recorded) → ((k : Name) → core (by_name k rs') ≡ core (by_name k rs)) →
    Way u v put entry get rs ss ea eb oa ob s i → Way u v put entry get rs' ss ea eb oa ob s i
noted_out u v put entry get rs ss ea eb oa ob s i rs' same w =
    let with_accepted : List (List ℕ) → Out = λ bs. record { send = s; accepted = bs; put = put; entry = entry } in
    let acc : (e : ℕ) → (named u v e rs').accepted ≡ (named u v e rs).accepted = λ e. ap (λ (c : Core). c.accepted) (same (at u v e)) in
    record {
      n = w.n;
      limit = w.limit;
      out = w.out;
      inn = w.inn;
      kept = w.kept;
      in_live = w.in_live;
      new = w.new;
      taken = w.taken;
      acked = w.acked;
      out_live = λ d. w.out_live d ∙ ap with_accepted (sym (acc ea));
      accepted = λ e. w.accepted e ∙ sym (acc e);
    }

pub noted_in : (u v : Session) (put : ℕ) (entry : ℕ → ℕ) (get : ℕ) (rs ss : List Recorded) (ea eb : ℕ) (oa ob : Bool) (s : Sending) (i : InSide) (ss' : List Recorded) → ((k : Name) → core (by_name k ss') ≡ core (by_name k ss)) →
    Way u v put entry get rs ss ea eb oa ob s i → Way u v put entry get rs ss' ea eb oa ob s i
noted_in u v put entry get rs ss ea eb oa ob s i ss' same w =
    let in_core : Core → In = λ c. record { pull = i.pull; ack = i.ack; stored = i.stored; taken = c.taken; acked = c.acked; get = get } in
    record {
      n = w.n;
      limit = w.limit;
      out = w.out;
      inn = w.inn;
      kept = w.kept;
      out_live = w.out_live;
      new = w.new;
      accepted = w.accepted;
      in_live = λ d. w.in_live d ∙ ap in_core (sym (same (at v u eb)));
      taken = λ e. w.taken e ∙ sym (ap (λ (c : Core). c.taken) (same (at v u e)));
      acked = λ e. w.acked e ∙ sym (ap (λ (c : Core). c.acked) (same (at v u e)));
    }

-- a record is begun for an epoch that isn't opened: nothing was in it
pub blank_out : (u v : Session) (put : ℕ) (entry : ℕ → ℕ) (get : ℕ) (rs ss : List Recorded) (ea eb : ℕ) (oa ob : Bool) (s : Sending) (i : InSide) (r : Recorded) → oa ≡ false → name_of r ≡ at u v ea → r.accepted ≡ [] →
    Way u v put entry get rs ss ea eb oa ob s i → Way u v put entry get (r ∷ rs) ss ea eb oa ob s i
blank_out u v put entry get rs ss ea eb oa ob s i r off name none w =
    let none_in : (w.out ea).accepted ≡ [] = (w.new ea (inl (subst (λ (o : Bool). reach ea o ≤ ea) (sym off) (omega arith)))).0.accepted in
    record {
      n = w.n;
      limit = w.limit;
      out = w.out;
      inn = w.inn;
      kept = w.kept;
      out_live = λ d. absurd (cc);
      in_live = w.in_live;
      new = w.new;
      taken = w.taken;
      acked = w.acked;
      accepted = λ e. by e none_in (cases_eq ea e);
    }
  where
    by : (e : ℕ) → (w.out ea).accepted ≡ [] → (ea ≡ e) ⊎ (ea ≡ e → ⊥) → (w.out e).accepted ≡ (named u v e (r ∷ rs)).accepted
    by e f (inl d) = subst (λ (k : ℕ). (w.out k).accepted ≡ (named u v k (r ∷ rs)).accepted) d (f ∙ sym none ∙ sym (ap (λ (x : Recorded). x.accepted) (name_here (at u v ea) r rs name)))
    by e f (inr d) = w.accepted e ∙ sym (ap (λ (x : Recorded). x.accepted) (name_else u v e r rs (λ k. d (sym (ap (λ (z : Name). z.epoch) name) ∙ k))))

pub blank_in : (u v : Session) (put : ℕ) (entry : ℕ → ℕ) (get : ℕ) (rs ss : List Recorded) (ea eb : ℕ) (oa ob : Bool) (s : Sending) (i : InSide) (r : Recorded) → ob ≡ false → name_of r ≡ at v u eb → r.taken ≡ [] → r.acked ≡ 0 →
    Way u v put entry get rs ss ea eb oa ob s i → Way u v put entry get rs (r ∷ ss) ea eb oa ob s i
blank_in u v put entry get rs ss ea eb oa ob s i r off name none zero w =
    let fresh = (w.new eb (inr (subst (λ (o : Bool). reach eb o ≤ eb) (sym off) (omega arith)))).1 in
    record {
      n = w.n;
      limit = w.limit;
      out = w.out;
      inn = w.inn;
      kept = w.kept;
      out_live = w.out_live;
      in_live = λ d. absurd (cc);
      new = w.new;
      accepted = w.accepted;
      taken = λ e. took e fresh.taken (cases_eq eb e);
      acked = λ e. ack e fresh.acked (cases_eq eb e);
    }
  where
    took : (e : ℕ) → (w.inn eb).taken ≡ [] → (eb ≡ e) ⊎ (eb ≡ e → ⊥) → (w.inn e).taken ≡ (named v u e (r ∷ ss)).taken
    took e f (inl d) = subst (λ (k : ℕ). (w.inn k).taken ≡ (named v u k (r ∷ ss)).taken) d (f ∙ sym none ∙ sym (ap (λ (x : Recorded). x.taken) (name_here (at v u eb) r ss name)))
    took e f (inr d) = w.taken e ∙ sym (ap (λ (x : Recorded). x.taken) (name_else v u e r ss (λ k. d (sym (ap (λ (z : Name). z.epoch) name) ∙ k))))

    ack : (e : ℕ) → (w.inn eb).acked ≡ 0 → (eb ≡ e) ⊎ (eb ≡ e → ⊥) → (w.inn e).acked ≡ (named v u e (r ∷ ss)).acked
    ack e f (inl d) = subst (λ (k : ℕ). (w.inn k).acked ≡ (named v u k (r ∷ ss)).acked) d (f ∙ sym zero ∙ sym (ap (λ (x : Recorded). x.acked) (name_here (at v u eb) r ss name)))
    ack e f (inr d) = w.acked e ∙ sym (ap (λ (x : Recorded). x.acked) (name_else v u e r ss (λ k. d (sym (ap (λ (z : Name). z.epoch) name) ∙ k))))

-- the sizes of an epoch that neither end has reached may be settled anew: by the end that opens it first
pub resized : (u v : Session) (put : ℕ) (entry : ℕ → ℕ) (get : ℕ) (rs ss : List Recorded) (ea eb : ℕ) (oa ob : Bool) (s : Sending) (i : InSide) (k n' limit' : ℕ) → 0 < n' → n' ≤ 8 → n' * lines limit' ≤ 8 → reach ea oa ≤ k → reach eb ob ≤ k →
    Way u v put entry get rs ss ea eb oa ob s i → Way u v put entry get rs ss ea eb oa ob s i
resized u v put entry get rs ss ea eb oa ob s i k n' limit' some few fits la lb w =
    let o : Out = record (w.out k) { send = record (w.out k).send { entries = n'; limit = limit' } } in
    let z : In = record (w.inn k) { pull = record (w.inn k).pull { entries = n'; limit = limit' } } in
    let a = (w.new k (inl la)).0 in
    let b = (w.new k (inl la)).1 in
    let new_out : NewOut n' limit' o = record { entries = refl; size = refl; word = a.word; put = a.put; known = a.known; accepted = a.accepted; next = a.next; stored = a.stored } in
    let new_in : NewIn n' limit' z = record { entries = refl; size = refl; word = b.word; acked = b.acked; stored = b.stored; front = b.front; later = b.later; count = b.count; taken = b.taken; cache = b.cache; pulled = b.pulled; seen = b.seen; copied = b.copied } in
    record {
      n = at_epoch w.n k n';
      limit = at_epoch w.limit k limit';
      out = at_epoch w.out k o;
      inn = at_epoch w.inn k z;
      kept = λ e. both (λ (x : Out) (y : In) (m l : ℕ). Kept x y) e o z (new_kept n' limit' o z some few fits new_out new_in) (w.kept e);
      out_live = λ d. at_else w.out k ea o (λ f. past ea oa d la f) ∙ w.out_live d;
      in_live = λ d. at_else w.inn k eb z (λ f. past eb ob d lb f) ∙ w.in_live d;
      new = λ e h. both (λ (x : Out) (y : In) (m l : ℕ). NewOut m l x × NewIn m l y) e o z (new_out, new_in) (w.new e h);
      accepted = at_each (λ (e : ℕ) (x : Out). x.accepted ≡ (named u v e rs).accepted) w.out k o (w.accepted k) (λ e d. w.accepted e);
      taken = at_each (λ (e : ℕ) (y : In). y.taken ≡ (named v u e ss).taken) w.inn k z (w.taken k) (λ e d. w.taken e);
      acked = at_each (λ (e : ℕ) (y : In). y.acked ≡ (named v u e ss).acked) w.inn k z (w.acked k) (λ e d. w.acked e);
    }
  where
    both : (P : Out → In → ℕ → ℕ → Type 0) (e : ℕ) (x : Out) (y : In) → P x y n' limit' → P (w.out e) (w.inn e) (w.n e) (w.limit e) → P (at_epoch w.out k x e) (at_epoch w.inn k y e) (at_epoch w.n k n' e) (at_epoch w.limit k limit' e)
    both P e x y here other = by (eqb k e) where
      by : (b : Bool) → P (cond b x (w.out e)) (cond b y (w.inn e)) (cond b n' (w.n e)) (cond b limit' (w.limit e))
      by true = here
      by false = other

    past : (e : ℕ) (o : Bool) → o ≡ true → reach e o ≤ k → k ≡ e → ⊥
    past e true d le f = absurd (omega (arith, le, f))
    past e false d le f = absurd (cc)

-- an end opens its epoch: the sizes are those of the partner that has opened it, or the end settles them
pub opens_out : (u v : Session) (put : ℕ) (entry : ℕ → ℕ) (get : ℕ) (rs ss : List Recorded) (ea eb : ℕ) (oa ob : Bool) (s : Sending) (i : InSide) → oa ≡ false → ea ≡ eb → 0 < s.entries → s.entries ≤ 8 → s.entries * lines s.limit ≤ 8 → (ob ≡ true → (i.pull.entries ≡ s.entries) × (i.pull.limit ≡ s.limit)) →
    ((n limit : ℕ) → s.entries ≡ n → s.limit ≡ limit → (named u v ea rs).accepted ≡ [] → NewOut n limit (out_of put entry (named u v ea rs) s)) → Way u v put entry get rs ss ea eb oa ob s i → Way u v put entry get rs ss ea eb true ob s i
unfolding resized
opens_out u v put entry get rs ss ea eb oa ob s i off even some few fits fit fresh w = by ob refl where
  low : reach ea oa ≤ ea
  low = subst (λ (o : Bool). reach ea o ≤ ea) (sym off) (omega arith)

  blank : (named u v ea rs).accepted ≡ []
  blank = sym (w.accepted ea) ∙ (w.new ea (inl low)).0.accepted

  by : (b : Bool) → ob ≡ b → Way u v put entry get rs ss ea eb true ob s i
  by true d =
      let k = (w.new ea (inl low)).1 in
      let there : w.inn ea ≡ in_of get (named v u eb ss) i = ap w.inn even ∙ w.in_live d in
      let f = fit d in
      let new_out = fresh (w.n ea) (w.limit ea) (sym f.0 ∙ sym (ap (λ (z : In). z.pull.entries) there) ∙ k.entries) (sym f.1 ∙ sym (ap (λ (z : In). z.pull.limit) there) ∙ k.size) blank in
      set_out u v put entry get rs ss ea eb oa ob s i put entry rs s w (new_kept (w.n ea) (w.limit ea) _ _ (subst (λ (m : ℕ). 0 < m) new_out.entries some) (subst (λ (m : ℕ). m ≤ 8) new_out.entries few) (subst (λ (m : ℕ). m * lines (w.limit ea) ≤ 8) new_out.entries (subst (λ (m : ℕ). s.entries * lines m ≤ 8) new_out.size fits)) new_out k) (λ le. new_out) (λ e n. refl)
  by false d =
      let high : reach eb ob ≤ ea = subst (λ (o : Bool). reach eb o ≤ ea) (sym d) (omega (arith, even)) in
      let w' = resized u v put entry get rs ss ea eb oa ob s i ea s.entries s.limit some few fits low high w in
      let new_out = fresh (w'.n ea) (w'.limit ea) (sym (at_here w.n ea s.entries)) (sym (at_here w.limit ea s.limit)) blank in
      set_out u v put entry get rs ss ea eb oa ob s i put entry rs s w' (new_kept (w'.n ea) (w'.limit ea) _ _ (subst (λ (m : ℕ). 0 < m) new_out.entries some) (subst (λ (m : ℕ). m ≤ 8) new_out.entries few) (subst (λ (m : ℕ). m * lines (w'.limit ea) ≤ 8) new_out.entries (subst (λ (m : ℕ). s.entries * lines m ≤ 8) new_out.size fits)) new_out (w'.new ea (inl low)).1) (λ le. new_out) (λ e n. refl)

pub opens_in : (u v : Session) (put : ℕ) (entry : ℕ → ℕ) (get : ℕ) (rs ss : List Recorded) (ea eb : ℕ) (oa ob : Bool) (s : Sending) (i : InSide) → ob ≡ false → eb ≡ ea → 0 < i.pull.entries → i.pull.entries ≤ 8 → i.pull.entries * lines i.pull.limit ≤ 8 → (oa ≡ true → (s.entries ≡ i.pull.entries) × (s.limit ≡ i.pull.limit)) →
    ((n limit : ℕ) → i.pull.entries ≡ n → i.pull.limit ≡ limit → (named v u eb ss).taken ≡ [] → (named v u eb ss).acked ≡ 0 → NewIn n limit (in_of get (named v u eb ss) i)) → Way u v put entry get rs ss ea eb oa ob s i → Way u v put entry get rs ss ea eb oa true s i
unfolding resized
opens_in u v put entry get rs ss ea eb oa ob s i off even some few fits fit fresh w = by oa refl where
  low : reach eb ob ≤ eb
  low = subst (λ (o : Bool). reach eb o ≤ eb) (sym off) (omega arith)

  none : (named v u eb ss).taken ≡ []
  none = sym (w.taken eb) ∙ (w.new eb (inr low)).1.taken

  zero : (named v u eb ss).acked ≡ 0
  zero = sym (w.acked eb) ∙ (w.new eb (inr low)).1.acked

  by : (b : Bool) → oa ≡ b → Way u v put entry get rs ss ea eb oa true s i
  by true d =
      let k = (w.new eb (inr low)).0 in
      let there : w.out eb ≡ out_of put entry (named u v ea rs) s = ap w.out even ∙ w.out_live d in
      let f = fit d in
      let new_in = fresh (w.n eb) (w.limit eb) (sym f.0 ∙ sym (ap (λ (z : Out). z.send.entries) there) ∙ k.entries) (sym f.1 ∙ sym (ap (λ (z : Out). z.send.limit) there) ∙ k.size) none zero in
      set_in u v put entry get rs ss ea eb oa ob s i get ss i w (new_kept (w.n eb) (w.limit eb) _ _ (subst (λ (m : ℕ). 0 < m) new_in.entries some) (subst (λ (m : ℕ). m ≤ 8) new_in.entries few) (subst (λ (m : ℕ). m * lines (w.limit eb) ≤ 8) new_in.entries (subst (λ (m : ℕ). i.pull.entries * lines m ≤ 8) new_in.size fits)) k new_in) (λ le. new_in) (λ e n. refl)
  by false d =
      let high : reach ea oa ≤ eb = subst (λ (o : Bool). reach ea o ≤ eb) (sym d) (omega (arith, even)) in
      let w' = resized u v put entry get rs ss ea eb oa ob s i eb i.pull.entries i.pull.limit some few fits high low w in
      let new_in = fresh (w'.n eb) (w'.limit eb) (sym (at_here w.n eb i.pull.entries)) (sym (at_here w.limit eb i.pull.limit)) none zero in
      set_in u v put entry get rs ss ea eb oa ob s i get ss i w' (new_kept (w'.n eb) (w'.limit eb) _ _ (subst (λ (m : ℕ). 0 < m) new_in.entries some) (subst (λ (m : ℕ). m ≤ 8) new_in.entries few) (subst (λ (m : ℕ). m * lines (w'.limit eb) ≤ 8) new_in.entries (subst (λ (m : ℕ). i.pull.entries * lines m ≤ 8) new_in.size fits)) (w'.new eb (inr low)).0 new_in) (λ le. new_in) (λ e n. refl)
