-- The messages that bytes are, and the bytes of messages.
use Rattle.std.proofs.Common.{◌≡◌, ℕ, ◌+◌, ◌-◌, ◌*◌, ◌/◌, ◌%◌, ◌<◌, ◌≤◌, Bool, true, false, ◌==◌, List, [], ◌∷◌, ◌++◌, length, slice_index, take, drop, refl, ap, sym, ◌∙◌, subst, arith}
use Rattle.std.proofs.lemmas.Bool.Decides.{nat_tests}
use Rattle.std.specs.Prelude.{Result, Ok, Err, IfOk, if◌then◌else◌, nat_lt}
use Rattle.std.proofs.lemmas.List.{take_rest}
use Rattle.xp_base.specs.declared.layout.TheConstants.{BUFFERS, BUFFER_WORDS, POOL_AT, PART_WORDS}
use Rattle.xp_base.specs.declared.frame.TheConstants.{HEADER_BYTES, FRAME_BYTES}
use Rattle.xpnet_frame.specs.declared.header.Header.{Header}
use Rattle.xpnet_frame.specs.declared.header.TheConstants.{MESSAGE_HEADER_BYTES, MESSAGE_VERSION, MESSAGE_MAGIC}
use Rattle.xpnet_frame.specs.declared.message.TheConstants.{EMBEDDED_FRAME, LEAD_IN, MOST_TAIL_OUT}
use Rattle.xpnet_frame.specs.declared.message.NetMessage.{NetMessage}
use Rattle.xpnet_frame.specs.declared.message.NetMessage.TheVariants.{Embedded, Buffered}
use Rattle.xpnet_frame.specs.declared.message.NetFault.{NetFault}
use Rattle.xpnet_frame.specs.declared.message.NetFault.TheVariants.{Size}
use Rattle.xpnet_frame.specs.Header.{header_of, header_bytes}
use Rattle.xpnet_frame.specs.Message.{IsBuffer, IsMessage, tail_for, header_for, data_of, message_bytes, is_embedded, is_buffer, is_buffered, embedded_message, buffered_message, message_of, decoded}
use Rattle.xpnet_frame.proofs.Bytes.{IsFit, bytes_of-header_of, header_of-bytes}

record IsChosen {A : Type 0} (b : Bool) (r s : A) : Type 0 where
  pub test : b ≡ true
  pub same : r ≡ s

-- where a choice isn't the fault that it has otherwise, its test held
chosen : (b : Bool) (r : Result NetMessage NetFault) (e : NetFault) (m : NetMessage)
    → (if b then r else Err e) ≡ Ok m → IsChosen b r (Ok m)
chosen true r e m h = record { test = refl; same = h }
chosen false r e m h = absurd (cc)

not_chosen : (b : Bool) (r : Result NetMessage NetFault) (e : NetFault) (m : NetMessage)
    → (if b then Err e else r) ≡ Ok m → IsChosen b false true → ⊥
not_chosen b r e m h k = absurd (let t = k.same in cc)

record Sizes (h : Header) (n : ℕ) : Type 0 where
  pub least : HEADER_BYTES ≤ n
  pub most : n ≤ EMBEDDED_FRAME
  pub embedded : h.embedded ≡ n
  pub size : h.size ≡ n
  pub place : h.place ≡ 0
  pub lead_in : h.lead_in ≡ 0
  pub tail_out : h.tail_out ≡ 0

embedded_sizes : (h : Header) (n : ℕ) → is_embedded h n ≡ true → Sizes h n
embedded_sizes h n t =
    record {
      least = grind (arith, nat_tests);
      most = grind (arith, nat_tests);
      embedded = grind (arith, nat_tests);
      size = grind (arith, nat_tests);
      place = grind (arith, nat_tests);
      lead_in = grind (arith, nat_tests);
      tail_out = grind (arith, nat_tests);
    }

-- a header with the right version and magic is that of the message that it forms
same_header : (h g : Header) → h.version ≡ g.version → h.embedded ≡ g.embedded → h.magic ≡ g.magic
    → h.place ≡ g.place → h.size ≡ g.size → h.lead_in ≡ g.lead_in → h.tail_out ≡ g.tail_out → h ≡ g
same_header h g a b c d e f k =
    λ i. record {
      version = a i;
      embedded = b i;
      magic = c i;
      place = d i;
      size = e i;
      lead_in = f i;
      tail_out = k i;
    }

record Form (h : Header) (payload : List ℕ) (m : NetMessage) : Type 0 where
  pub message : IsMessage m
  pub header : h ≡ header_for m
  pub behind : payload ≡ data_of m

embedded_form : (h : Header) (payload : List ℕ) (m : NetMessage) → h.version ≡ MESSAGE_VERSION
    → h.magic ≡ MESSAGE_MAGIC → embedded_message h payload ≡ Ok m → Form h payload m
embedded_form h payload m v g e =
    let c = chosen (is_embedded h (length payload)) _ _ m e in
    let s = embedded_sizes h (length payload) c.test in
    let same : Embedded payload ≡ m = let t = c.same in cc in
    subst (λ (x : NetMessage). Form h payload x) same
    record {
      message = (s.least, s.most);
      header = same_header h
          (header_for (Embedded payload)) v s.embedded g s.place s.size s.lead_in s.tail_out;
      behind = refl;
    }

buffer_of : (place : ℕ) → is_buffer place ≡ true → IsBuffer place
buffer_of place t =
    let low : POOL_AT ≤ place = grind (arith, nat_tests) in
    let high : place < PART_WORDS = grind (arith, nat_tests) in
    let whole : (place - POOL_AT) % BUFFER_WORDS ≡ 0 = grind (arith, nat_tests) in
    ((place - POOL_AT) / BUFFER_WORDS, (omega arith, omega arith))

record Around (h : Header) (n : ℕ) : Type 0 where
  pub bare : n ≡ 0
  pub lead_in : h.lead_in ≡ LEAD_IN
  pub tail_out : h.tail_out ≤ MOST_TAIL_OUT
  pub words : h.size % 8 ≡ 0
  pub least : LEAD_IN + h.tail_out + EMBEDDED_FRAME < h.size
  pub most : h.size ≤ LEAD_IN + h.tail_out + FRAME_BYTES

buffered_sizes : (h : Header) (n : ℕ) → is_buffered h n ≡ true → Around h n
buffered_sizes h n t =
    record {
      bare = grind (arith, nat_tests);
      lead_in = grind (arith, nat_tests);
      tail_out = grind (arith, nat_tests);
      words = grind (arith, nat_tests);
      least = grind (arith, nat_tests);
      most = grind (arith, nat_tests);
    }

nothing : (xs : List ℕ) → length xs ≡ 0 → xs ≡ []
nothing [] e = refl
nothing (x ∷ xs) e = absurd (omega arith)

buffered_form : (h : Header) (payload : List ℕ) (m : NetMessage) → h.version ≡ MESSAGE_VERSION
    → h.magic ≡ MESSAGE_MAGIC → h.embedded ≡ 0 → buffered_message h (length payload) ≡ Ok m
    → Form h payload m
buffered_form h payload m v g z e =
    let c = chosen (is_buffer h.place) _ _ m e in
    let d = chosen (is_buffered h (length payload)) _ _ m c.same in
    let s = buffered_sizes h (length payload) d.test in
    let n : ℕ = h.size - LEAD_IN - h.tail_out in
    let same : Buffered h.place n ≡ m = let t = d.same in cc in
    let least = s.least in
    let most = s.most in
    let words = s.words in
    let few = s.tail_out in
    let tail : h.tail_out ≡ tail_for n = omega arith in
    let size : h.size ≡ LEAD_IN + n + tail_for n = omega arith in
    subst (λ (x : NetMessage). Form h payload x) same
    record {
      message = (buffer_of h.place c.test, (omega arith, omega arith));
      header = same_header h (header_for (Buffered h.place n)) v z g refl size s.lead_in tail;
      behind = nothing payload s.bare;
    }

test_of : (x y : ℕ) → (x == y) ≡ true → x ≡ y
test_of x y h = grind (arith, nat_tests)

formed_form : (h : Header) (payload : List ℕ) (m : NetMessage) (b : Bool) → (h.embedded == 0) ≡ b
    → h.version ≡ MESSAGE_VERSION → h.magic ≡ MESSAGE_MAGIC
    → (if b then buffered_message h (length payload) else embedded_message h payload) ≡ Ok m
    → Form h payload m
formed_form h payload m true t v g e = buffered_form h payload m v g (test_of h.embedded 0 t) e
formed_form h payload m false t v g e = embedded_form h payload m v g e

message_form : (h : Header) (payload : List ℕ) (m : NetMessage) → message_of h payload ≡ Ok m
    → Form h payload m
message_form h payload m e =
    let a = chosen (h.version == MESSAGE_VERSION) _ _ m e in
    let b = chosen (h.magic == MESSAGE_MAGIC) _ _ m a.same in
    formed_form h payload m (h.embedded == 0) refl (test_of h.version MESSAGE_VERSION a.test)
    (test_of h.magic MESSAGE_MAGIC b.test) b.same

pub record IsMessageOf (bytes : List ℕ) (m : NetMessage) : Type 0 where
  pub message : IsMessage m
  pub bytes_are : bytes ≡ message_bytes m

-- what is decoded is a message, and its bytes are those that were decoded
long_enough : (bytes : List ℕ) (m : NetMessage) (b : Bool)
    → nat_lt (length bytes) MESSAGE_HEADER_BYTES ≡ b → ((k : ℕ) → slice_index bytes k < 256)
    → (if b then Err Size else message_of (header_of bytes) (drop MESSAGE_HEADER_BYTES bytes))
    ≡ Ok m → IsMessageOf bytes m
long_enough bytes m true t small e = absurd (cc)
long_enough bytes m false t small e =
    let low : MESSAGE_HEADER_BYTES ≤ length bytes = grind (arith, nat_tests) in
    let f = message_form (header_of bytes) (drop MESSAGE_HEADER_BYTES bytes) m e in
    let same : header_bytes (header_for m) ++ data_of m ≡ bytes =
    ap (λ (h : Header). header_bytes h ++ data_of m) (sym f.header)
    ∙ ap (λ (d : List ℕ). header_bytes (header_of bytes) ++ d) (sym f.behind)
    ∙ bytes_of-header_of bytes small low in
    record { message = f.message; bytes_are = sym same }

pub decoded_message : (bytes : List ℕ) (r : Result NetMessage NetFault)
    → ((k : ℕ) → slice_index bytes k < 256) → r ≡ decoded bytes
    → IfOk r (λ m. IsMessage m × (bytes ≡ message_bytes m))
decoded_message bytes (Ok m) small e = let f =
    long_enough bytes m (nat_lt (length bytes) MESSAGE_HEADER_BYTES) refl small (sym e) in
    (f.message, f.bytes_are)
decoded_message bytes (Err fault) small e = tt

if_true : {A : Type 0} (b : Bool) (x y : A) → b ≡ true → (if b then x else y) ≡ x
if_true true x y h = refl
if_true false x y h = absurd (cc)

if_false : {A : Type 0} (b : Bool) (x y : A) → b ≡ false → (if b then x else y) ≡ y
if_false true x y h = absurd (cc)
if_false false x y h = refl

-- the header and the payload of a message's bytes
read_back : (m : NetMessage) → IsFit (header_for m)
    → decoded (message_bytes m) ≡ message_of (header_for m) (data_of m)
read_back m fit =
    let bytes : List ℕ = message_bytes m in
    let short : nat_lt (length bytes) MESSAGE_HEADER_BYTES ≡ false = grind (arith, nat_tests) in
    if_false (nat_lt (length bytes) MESSAGE_HEADER_BYTES) _ _ short
    ∙ ap (λ (h : Header). message_of h (data_of m))
    (header_of-bytes (header_for m) (data_of m) fit)

is_embedded-for : (frame : List ℕ) → HEADER_BYTES ≤ length frame → length frame ≤ EMBEDDED_FRAME
    → is_embedded (header_for (Embedded frame)) (length frame) ≡ true
is_embedded-for frame low high = grind (arith, nat_tests)

formed_embedded : (frame : List ℕ) → HEADER_BYTES ≤ length frame → length frame ≤ EMBEDDED_FRAME
    → message_of (header_for (Embedded frame)) frame ≡ Ok (Embedded frame)
formed_embedded frame low high =
    let some : (length frame == 0) ≡ false = grind (arith, nat_tests) in
    if_false (length frame == 0) _ _ some
    ∙ if_true (is_embedded (header_for (Embedded frame)) (length frame)) _ _
    (is_embedded-for frame low high)

is_buffer-of : (place : ℕ) → IsBuffer place → is_buffer place ≡ true
is_buffer-of place h =
    let b : ℕ = h.0 in
    let low : b < BUFFERS = h.1.0 in
    let at : place ≡ POOL_AT + BUFFER_WORDS * b + 0 = h.1.1 in
    let whole : (place - POOL_AT) % BUFFER_WORDS ≡ 0 = omega arith in
    let after : POOL_AT ≤ place = omega arith in
    let before : place < PART_WORDS = omega arith in
    grind (arith, nat_tests)

is_buffered-for : (place n : ℕ) → EMBEDDED_FRAME < n → n ≤ FRAME_BYTES
    → is_buffered (header_for (Buffered place n)) 0 ≡ true
is_buffered-for place n low high =
    let words : (LEAD_IN + n + tail_for n) % 8 ≡ 0 = omega arith in
    let few : tail_for n ≤ MOST_TAIL_OUT = omega arith in
    grind (arith, nat_tests)

formed_buffered : (place n : ℕ) → IsBuffer place → EMBEDDED_FRAME < n → n ≤ FRAME_BYTES
    → message_of (header_for (Buffered place n)) [] ≡ Ok (Buffered place n)
formed_buffered place n b low high =
    let same : LEAD_IN + n + tail_for n - LEAD_IN - tail_for n ≡ n = omega arith in
    if_true (is_buffer place) _ _ (is_buffer-of place b)
    ∙ if_true (is_buffered (header_for (Buffered place n)) 0) _ _
    (is_buffered-for place n low high)
    ∙ ap (λ (k : ℕ). Ok (Buffered place k)) same

-- the bytes of a message are decoded as that message
pub decoded_bytes : (m : NetMessage) → IsMessage m → decoded (message_bytes m) ≡ Ok m
decoded_bytes (Embedded frame) h =
    let low = h.0 in
    let high = h.1 in
    let fit : IsFit (header_for (Embedded frame)) =
    record {
      version = omega arith;
      embedded = omega arith;
      magic = omega arith;
      place = omega arith;
      size = omega arith;
    } in
    read_back (Embedded frame) fit ∙ formed_embedded frame low high
decoded_bytes (Buffered place n) h =
    let b : ℕ = h.0.0 in
    let first : b < BUFFERS = h.0.1.0 in
    let at : place ≡ POOL_AT + BUFFER_WORDS * b + 0 = h.0.1.1 in
    let low = h.1.0 in
    let high = h.1.1 in
    let fit : IsFit (header_for (Buffered place n)) =
    record {
      version = omega arith;
      embedded = omega arith;
      magic = omega arith;
      place = omega arith;
      size = omega arith;
    } in
    read_back (Buffered place n) fit ∙ formed_buffered place n h.0 low high

-- bytes whose header is whole are decoded by their header and what stands behind it
pub decoded_from : (bytes : List ℕ) (h : Header) (r : Result NetMessage NetFault)
    → MESSAGE_HEADER_BYTES ≤ length bytes → h ≡ header_of bytes
    → r ≡ message_of h (take (length bytes - MESSAGE_HEADER_BYTES)
    (drop MESSAGE_HEADER_BYTES bytes)) → r ≡ decoded bytes
decoded_from bytes h r low e f =
    let long : nat_lt (length bytes) MESSAGE_HEADER_BYTES ≡ false = grind (arith, nat_tests) in
    f ∙ ap (message_of h) (take_rest bytes MESSAGE_HEADER_BYTES)
    ∙ ap (λ (g : Header). message_of g (drop MESSAGE_HEADER_BYTES bytes)) e
    ∙ sym (if_false (nat_lt (length bytes) MESSAGE_HEADER_BYTES) (Err Size)
    (message_of (header_of bytes) (drop MESSAGE_HEADER_BYTES bytes)) long)
