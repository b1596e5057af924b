-- What each status says, from when it comes.
use Rattle.std.proofs.Common.{◌≡◌, ◌≢◌, ℕ, ◌+◌, ◌-◌, ◌^◌, ◌<◌, ◌≤◌, ◌⊎◌, ◌↔◌, inl, inr, true, false, List, ◌++◌, length, Option, Some, None, IsSome, IsSomeAnd, refl, ap, sym, ◌∙◌, subst, arith, append-nil, length-append, take}
use Rattle.std.specs.Io.KnownBytes.{Appends, Consumes, IsAtEnd}
use Rattle.xp_outside.specs.Causes.{Rose}
use Rattle.xp_world.specs.declared.world.World.{World}
use Rattle.xp_tool.specs.declared.command.ToolCommand.{ToolCommand}
use Rattle.xp_tool.specs.declared.product.Made.{Made}
use Rattle.xp_tool.specs.declared.product.Product.{Product}
use Rattle.xp_tool.specs.declared.status.InputFault.{InputFault}
use Rattle.xp_tool.specs.declared.status.Status.{Status}
use Rattle.xp_tool.specs.declared.status.Status.TheVariants.{Ok, Usage, ReadFault, WriteFault, BadInput, TooLong, NoMemory}
use Rattle.xp_tool.specs.declared.command.TheConstants.{SCENARIO_LIMIT, DUMP_LIMIT}
use Rattle.xp_tool.specs.declared.command.ToolCommand.TheVariants.{Replay, Run, Dump, Decode, Gen, Big}
use Rattle.xp_tool.specs.Command.{limit_of, IsRefused, LeavesWorld, end_of, needs_threads}
use Rattle.xp_tool.specs.Plain.{only_plain, ReadsNothing, ReadsWithin, Reads, Ran, Headline, Cut, WritesFront, IsBad, IsTooLong, told_within, IsWithin, IsToldAnd, IsGood, IsWrong, IsPastLimit}
use Rattle.xp_tool.specs.Made.{IsMade, Wrote, Outcome}
use Rattle.xp_tool.proofs.Commands.{done_good, leaves}

some_none : {A : Type 0} (o : Option A) → IsSome o → o ≡ None → ⊥
some_none {A = A} o h e =
    let P : Option A → Type 0 = λ x. IsSome x in
    let wrong : false ≡ true = subst P e h in cc

and_none : {A : Type 0} (o : Option A) (P : A → Type 0) → IsSomeAnd o P → o ≡ None → ⊥
and_none None P h e = h
and_none (Some x) P h e = cc

none_and : {A : Type 0} (o : Option A) (P : A → Type 0) → o ≡ None → IsSomeAnd o P → ⊥
none_and o P e h = and_none o P h e

-- two facts that can't both hold of the value
clash : {A : Type 0} (o : Option A) (P Q : A → Type 0) → ((x : A) → P x → Q x → ⊥) → IsSomeAnd o P → IsSomeAnd o Q → ⊥
clash None P Q f p q = p
clash (Some x) P Q f p q = f x p q

-- a command that reads nothing is the one that was meant, and needs no threads
pub command_reads_nothing : (o : Option ToolCommand) (c : ToolCommand) → Some c ≡ o → IsSomeAnd o ReadsNothing → ReadsNothing c
command_reads_nothing o c e h = subst (λ (x : Option ToolCommand). IsSomeAnd x ReadsNothing) (sym e) h

no_limit : (n : ℕ) → Some n ≡ None → ⊥
no_limit n e = cc

pub plain_reads_nothing : (o : Option ToolCommand) → IsSomeAnd o ReadsNothing → IsSomeAnd (only_plain o) ReadsNothing
plain_reads_nothing None h = h
plain_reads_nothing (Some Replay) h = absurd (no_limit SCENARIO_LIMIT h)
plain_reads_nothing (Some Run) h = absurd (no_limit SCENARIO_LIMIT h)
plain_reads_nothing (Some Dump) h = absurd (no_limit SCENARIO_LIMIT h)
plain_reads_nothing (Some Decode) h = absurd (no_limit DUMP_LIMIT h)
plain_reads_nothing (Some (Gen n)) h = refl
plain_reads_nothing (Some (Big n)) h = refl

pub threads_read : (o : Option ToolCommand) → needs_threads o ≡ true → IsSomeAnd o ReadsNothing → ⊥
threads_read None e h = h
threads_read (Some Replay) e h = no_limit SCENARIO_LIMIT h
threads_read (Some Run) e h = no_limit SCENARIO_LIMIT h
threads_read (Some Dump) e h = no_limit SCENARIO_LIMIT h
threads_read (Some Decode) e h = no_limit DUMP_LIMIT h
threads_read (Some (Gen n)) e h = absurd cc
threads_read (Some (Big n)) e h = absurd cc

no_rise : (old new : ℕ) → Rose old new → new ≡ old → old < 2 ^ 64 - 1 → ⊥
no_rise old new r e h = omega (arith, r, e, h)

-- all bytes that were left are those that were read
all_read : (told : List ℕ) (left' : Option (List ℕ)) (bytes : List ℕ) → Consumes (Some told) left' bytes → IsAtEnd left' → told ≡ bytes
all_read told None bytes h e = absurd h
all_read told (Some rest) bytes h e = h ∙ ap (λ (r : List ℕ). bytes ++ r) e ∙ append-nil bytes

-- what is told of the input holds of what was read
of_read : (limit : Option ℕ) (left left' : Option (List ℕ)) (input : List ℕ) (P : List ℕ → Type 0) → ReadsWithin limit left left' input → IsSomeAnd (told_within limit left) P → P input
of_read None left left' input P r h = subst P (sym r.0) h
of_read (Some limit) None left' input P r h = absurd h
of_read (Some limit) (Some told) left' input P r h = subst P (all_read told left' input r.0 r.1) h

of_told : (c : ToolCommand) (left left' : Option (List ℕ)) (input : List ℕ) (P : List ℕ → Type 0) → Reads c left left' input → IsToldAnd c left P → P input
of_told c left left' input P r h = let both = of_read (limit_of c) left left' input (λ i. IsWithin (limit_of c) i × P i) r h in both.1

good_bad : (left left' : Option (List ℕ)) (fault : InputFault) (c : ToolCommand) → IsGood c left → IsBad c left left' fault → ⊥
good_bad left left' fault c g b = of_told c left left' b.input (λ i. (f : InputFault) → IsRefused c i f → ⊥) b.read g fault b.refused

wrong_ran : (left left' : Option (List ℕ)) (made : Product) (c : ToolCommand) → IsWrong c left → Ran c left left' made → ⊥
wrong_ran left left' made c w r =
    let found = of_told c left left' r.input (λ i. (f : InputFault) × IsRefused c i f) r.read w in
    done_good c r.input made found.0 r.done found.1

-- more than the limit was read of an input within it
within_long : (limit : ℕ) (left left' : Option (List ℕ)) (bytes : List ℕ) (P : List ℕ → Type 0) → Consumes left left' bytes → length bytes ≡ limit + 1 → IsSomeAnd left (λ i. (length i ≤ limit) × P i) → ⊥
within_long limit None left' bytes P r n h = h
within_long limit (Some told) None bytes P r n h = r
within_long limit (Some told) (Some rest) bytes P r n h = omega (arith, h.0, n, ap length r, length-append bytes rest)

told_long : (left left' : Option (List ℕ)) (limit : ℕ) (P : List ℕ → Type 0) (c : ToolCommand) → IsToldAnd c left P → IsTooLong c left left' limit → ⊥
told_long left left' limit P c h b =
    let Q : Option ℕ → Type 0 = λ l. IsSomeAnd (told_within l left) (λ i. IsWithin l i × P i) in
    within_long limit left left' b.bytes P b.read b.long (subst Q b.is h)

-- all was read within the limit of an input past it
past_within : (limit : Option ℕ) (left left' : Option (List ℕ)) (input : List ℕ) → IsSomeAnd limit (λ n. IsSomeAnd left (λ i. n < length i)) → ReadsWithin limit left left' input → ⊥
past_within None left left' input p r = p
past_within (Some limit) None left' input p r = p
past_within (Some limit) (Some told) left' input p r = omega (arith, p, ap length (all_read told left' input r.0 r.1), r.2)

past_ran : (left left' : Option (List ℕ)) (made : Product) (c : ToolCommand) → IsPastLimit c left → Ran c left left' made → ⊥
past_ran left left' made c p r = past_within (limit_of c) left left' r.input p r.read

past_bad : (left left' : Option (List ℕ)) (fault : InputFault) (c : ToolCommand) → IsPastLimit c left → IsBad c left left' fault → ⊥
past_bad left left' fault c p b = past_within (limit_of c) left left' b.input p b.read

-- what was made leaves an end where its command leaves a world
ends : (c : ToolCommand) (left left' : Option (List ℕ)) (made : Product) (end : Option World) → Ran c left left' made → end ≡ end_of made → IsSome end ↔ LeavesWorld c
ends c left left' made end r is =
    let P : Option World → Type 0 = λ x. IsSome x ↔ LeavesWorld c in
    subst P (sym is) (leaves c r.input made r.done)

no_end : (end : Option World) → end ≡ None → IsSome end → ⊥
no_end end e s = some_none end s e

-- the end of a call that did something
end_if_done : (o : Option ToolCommand) (end : Option World) (D : Type 0) → D → IsSomeAnd o (λ c. IsSome end ↔ LeavesWorld c) → IsSome end ↔ (IsSomeAnd o LeavesWorld × D)
end_if_done None end D d h = absurd h
end_if_done (Some c) end D d h = ((λ x. (h.0 x, d)), λ x. h.1 x.0)

and_map : {A : Type 0} (o : Option A) (P Q : A → Type 0) → ((x : A) → P x → Q x) → IsSomeAnd o P → IsSomeAnd o Q
and_map None P Q f h = h
and_map (Some x) P Q f h = f x h

neither : (st : Status) → st ≢ Ok → st ≢ WriteFault → (st ≡ Ok) ⊎ (st ≡ WriteFault) → ⊥
neither st a b (inl x) = a x
neither st a b (inr x) = b x

-- the end of a call that did nothing
end_if_not : (o : Option ToolCommand) (end : Option World) (st : Status) → end ≡ None → st ≢ Ok → st ≢ WriteFault → IsSome end ↔ (IsSomeAnd o LeavesWorld × ((st ≡ Ok) ⊎ (st ≡ WriteFault)))
end_if_not o end st e a b = ((λ x. absurd (no_end end e x)), λ x. absurd (neither st a b x.1))

module _ {A B : Type 0} (left : A → Option (List ℕ)) (reads : A → ℕ) (held : B → Option (List ℕ)) (writes : B → ℕ) (o : Option ToolCommand) (s s' : A) (k k' : B) (e : Option World) where
  pub usage_of : (st : Status) → Outcome left reads held writes o s s' k k' e st → st ≡ Usage → o ≡ None
  usage_of Usage t x = t.0
  usage_of st t x = absurd (cc)

  pub read_of : (st : Status) → Outcome left reads held writes o s s' k k' e st → st ≡ ReadFault → Rose (reads s) (reads s')
  read_of ReadFault t x = t.1
  read_of st t x = absurd (cc)

  pub write_of : (st : Status) → Outcome left reads held writes o s s' k k' e st → st ≡ WriteFault → Rose (writes k) (writes k')
  write_of WriteFault t x = t.2
  write_of st t x = absurd (cc)

  pub bad_of : (st : Status) → Outcome left reads held writes o s s' k k' e st → (fault : InputFault) → st ≡ BadInput fault → IsSomeAnd o (λ c. IsBad c (left s) (left s') fault)
  bad_of (BadInput f) t fault x = let same : f ≡ fault = cc in subst (λ (f : InputFault). IsSomeAnd o (λ c. IsBad c (left s) (left s') f)) same t.0
  bad_of st t fault x = absurd (cc)

  pub long_of : (st : Status) → Outcome left reads held writes o s s' k k' e st → (limit : ℕ) → st ≡ TooLong limit → IsSomeAnd o (λ c. IsTooLong c (left s) (left s') limit)
  long_of (TooLong n) t limit x = let same : n ≡ limit = cc in subst (λ (n : ℕ). IsSomeAnd o (λ c. IsTooLong c (left s) (left s') n)) same t.0
  long_of st t limit x = absurd (cc)

  pub ok_of : (st : Status) → Outcome left reads held writes o s s' k k' e st → st ≡ Ok → IsSomeAnd o (λ c. Headline c (left s) (left s') (held k) (held k') e)
  ok_of Ok t x = t.0
  ok_of st t x = absurd (cc)

  pub cut_of : (st : Status) → Outcome left reads held writes o s s' k k' e st → st ≡ WriteFault → IsSomeAnd o (λ c. Cut c (left s) (left s') (held k) (held k') e)
  cut_of WriteFault t x = t.0
  cut_of st t x = absurd (cc)

  pub memory_of : (st : Status) → Outcome left reads held writes o s s' k k' e st → st ≡ NoMemory → (k' ≡ k) ⊎ IsSomeAnd o (λ c. WritesFront c (left s) (left s') (held k) (held k'))
  memory_of NoMemory t x = t.0
  memory_of st t x = absurd (cc)

  pub kept_of : (st : Status) → Outcome left reads held writes o s s' k k' e st → st ≢ Ok → st ≢ WriteFault → st ≢ NoMemory → k' ≡ k
  kept_of Ok t a b c = absurd (a refl)
  kept_of Usage t a b c = t.2
  kept_of ReadFault t a b c = t.2
  kept_of WriteFault t a b c = absurd (b refl)
  kept_of (BadInput f) t a b c = t.2
  kept_of (TooLong n) t a b c = t.2
  kept_of NoMemory t a b c = absurd (c refl)

  pub unread_of : (st : Status) → Outcome left reads held writes o s s' k k' e st → st ≡ Usage → s' ≡ s
  unread_of Usage t x = t.1
  unread_of st t x = absurd (cc)

  pub reads_of : (st : Status) → Outcome left reads held writes o s s' k k' e st → st ≢ ReadFault → reads s' ≡ reads s
  reads_of Ok t x = t.1
  reads_of Usage t x = ap reads t.1
  reads_of ReadFault t x = absurd (x refl)
  reads_of WriteFault t x = t.1
  reads_of (BadInput f) t x = t.1
  reads_of (TooLong n) t x = t.1
  reads_of NoMemory t x = t.1

  pub writes_of : (st : Status) → Outcome left reads held writes o s s' k k' e st → st ≢ WriteFault → writes k' ≡ writes k
  writes_of Ok t x = t.2
  writes_of Usage t x = ap writes t.2
  writes_of ReadFault t x = ap writes t.2
  writes_of WriteFault t x = absurd (x refl)
  writes_of (BadInput f) t x = ap writes t.2
  writes_of (TooLong n) t x = ap writes t.2
  writes_of NoMemory t x = t.2

  done_ends : IsSomeAnd o (λ c. Headline c (left s) (left s') (held k) (held k') e) → IsSomeAnd o (λ c. IsSome e ↔ LeavesWorld c)
  done_ends h = and_map o _ _ (λ c r. ends c (left s) (left s') r.made e r.ran r.is) h

  cut_ends : IsSomeAnd o (λ c. Cut c (left s) (left s') (held k) (held k') e) → IsSomeAnd o (λ c. IsSome e ↔ LeavesWorld c)
  cut_ends h = and_map o _ _ (λ c r. ends c (left s) (left s') r.made e r.ran r.is) h

  pub end_of_call : (st : Status) → Outcome left reads held writes o s s' k k' e st → IsSome e ↔ (IsSomeAnd o LeavesWorld × ((st ≡ Ok) ⊎ (st ≡ WriteFault)))
  end_of_call Ok t = end_if_done o e ((Ok ≡ Ok) ⊎ (Ok ≡ WriteFault)) (inl refl) (done_ends t.0)
  end_of_call Usage t = end_if_not o e Usage t.3 (λ y. cc) (λ y. cc)
  end_of_call ReadFault t = end_if_not o e ReadFault t.3 (λ y. cc) (λ y. cc)
  end_of_call WriteFault t = end_if_done o e ((WriteFault ≡ Ok) ⊎ (WriteFault ≡ WriteFault)) (inr refl) (cut_ends t.0)
  end_of_call (BadInput f) t = end_if_not o e (BadInput f) t.3 (λ y. cc) (λ y. cc)
  end_of_call (TooLong n) t = end_if_not o e (TooLong n) t.3 (λ y. cc) (λ y. cc)
  end_of_call NoMemory t = end_if_not o e NoMemory t.3 (λ y. cc) (λ y. cc)

  pub no_command_of : (st : Status) → Outcome left reads held writes o s s' k k' e st → o ≡ None → (st ≡ Usage) ⊎ (st ≡ NoMemory)
  no_command_of Ok t x = absurd (and_none o _ t.0 x)
  no_command_of Usage t x = inl refl
  no_command_of ReadFault t x = absurd (some_none o t.0 x)
  no_command_of WriteFault t x = absurd (and_none o _ t.0 x)
  no_command_of (BadInput f) t x = absurd (and_none o _ t.0 x)
  no_command_of (TooLong n) t x = absurd (and_none o _ t.0 x)
  no_command_of NoMemory t x = inr refl

  pub complete_of : (st : Status) → Outcome left reads held writes o s s' k k' e st → reads s < 2 ^ 64 - 1 → writes k < 2 ^ 64 - 1 → IsSomeAnd o (λ c. IsGood c (left s)) → reads s' ≡ reads s → writes k' ≡ writes k → (st ≡ Ok) ⊎ (st ≡ NoMemory)
  complete_of Ok t hr hw g er ew = inl refl
  complete_of Usage t hr hw g er ew = absurd (and_none o _ g t.0)
  complete_of ReadFault t hr hw g er ew = absurd (no_rise (reads s) (reads s') t.1 er hr)
  complete_of WriteFault t hr hw g er ew = absurd (no_rise (writes k) (writes k') t.2 ew hw)
  complete_of (BadInput f) t hr hw g er ew = absurd (clash o _ _ (λ c p q. good_bad (left s) (left s') f c p q) g t.0)
  complete_of (TooLong n) t hr hw g er ew = absurd (clash o _ _ (λ c p q. told_long (left s) (left s') n (λ i. (f : InputFault) → IsRefused c i f → ⊥) c p q) g t.0)
  complete_of NoMemory t hr hw g er ew = inr refl

  pub refuses_of : (st : Status) → Outcome left reads held writes o s s' k k' e st → reads s < 2 ^ 64 - 1 → IsSomeAnd o (λ c. IsWrong c (left s)) → reads s' ≡ reads s → ((fault : InputFault) × (st ≡ BadInput fault)) ⊎ (st ≡ NoMemory)
  refuses_of Ok t hr w er = absurd (clash o _ _ (λ c p q. wrong_ran (left s) (left s') q.made c p q.ran) w t.0)
  refuses_of Usage t hr w er = absurd (and_none o _ w t.0)
  refuses_of ReadFault t hr w er = absurd (no_rise (reads s) (reads s') t.1 er hr)
  refuses_of WriteFault t hr w er = absurd (clash o _ _ (λ c p q. wrong_ran (left s) (left s') q.made c p q.ran) w t.0)
  refuses_of (BadInput f) t hr w er = inl (f, refl)
  refuses_of (TooLong n) t hr w er = absurd (clash o _ _ (λ c p q. told_long (left s) (left s') n (λ i. (f : InputFault) × IsRefused c i f) c p q) w t.0)
  refuses_of NoMemory t hr w er = inr refl

  pub refuses_long_of : (st : Status) → Outcome left reads held writes o s s' k k' e st → reads s < 2 ^ 64 - 1 → IsSomeAnd o (λ c. IsPastLimit c (left s)) → reads s' ≡ reads s → ((limit : ℕ) × (st ≡ TooLong limit)) ⊎ (st ≡ NoMemory)
  refuses_long_of Ok t hr p er = absurd (clash o _ _ (λ c p q. past_ran (left s) (left s') q.made c p q.ran) p t.0)
  refuses_long_of Usage t hr p er = absurd (and_none o _ p t.0)
  refuses_long_of ReadFault t hr p er = absurd (no_rise (reads s) (reads s') t.1 er hr)
  refuses_long_of WriteFault t hr p er = absurd (clash o _ _ (λ c p q. past_ran (left s) (left s') q.made c p q.ran) p t.0)
  refuses_long_of (BadInput f) t hr p er = absurd (clash o _ _ (λ c p q. past_bad (left s) (left s') f c p q) p t.0)
  refuses_long_of (TooLong n) t hr p er = inl (n, refl)
  refuses_long_of NoMemory t hr p er = inr refl

-- the text that was made was written, or a front of it
pub wrote : {A B : Type 0} (left : A → Option (List ℕ)) (reads : A → ℕ) (held : B → Option (List ℕ)) (writes : B → ℕ) (c : ToolCommand) (s s' : A) (k k' : B) (input : List ℕ) (made : Made) (e : Option World) (st : Status) → Reads c (left s) (left s') input → reads s' ≡ reads s → IsMade c input made → Wrote made.product made.text.items (held k) (held k') (writes k) (writes k') e st → Outcome left reads held writes (Some c) s s' k k' e st
wrote left reads held writes c s s' k k' input made e Ok r n m t =
    let P : List ℕ → Type 0 = λ x. Appends (held k) (held k') x in
    (record { made = made.product; ran = record { input = input; read = r; done = m.done }; written = subst P m.text t.0; is = t.2 }, n, t.1)
wrote left reads held writes c s s' k k' input made e Usage r n m t = absurd t
wrote left reads held writes c s s' k k' input made e ReadFault r n m t = absurd t
wrote left reads held writes c s s' k k' input made e WriteFault r n m t =
    let P : List ℕ → Type 0 = λ x. Appends (held k) (held k') (take t.0.0 x) in
    (record { made = made.product; ran = record { input = input; read = r; done = m.done }; count = t.0.0; written = subst P m.text t.0.1; is = t.2 }, n, t.1)
wrote left reads held writes c s s' k k' input made e (BadInput f) r n m t = absurd t
wrote left reads held writes c s s' k k' input made e (TooLong limit) r n m t = absurd t
wrote left reads held writes c s s' k k' input made e NoMemory r n m t =
    let P : List ℕ → Type 0 = λ x. Appends (held k) (held k') (take t.0.0 x) in
    (inr (end_of made.product, record { made = made.product; ran = record { input = input; read = r; done = m.done }; count = t.0.0; written = subst P m.text t.0.1; is = refl }), n, t.1, t.2)
