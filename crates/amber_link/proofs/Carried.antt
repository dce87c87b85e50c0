-- A link's end carries the batches of what was pushed.
use Rattle.std.proofs.Common.{◌≡◌, ◌+◌, ◌-◌, ◌/◌, ◌<◌, ◌≢◌, eqb, List, [], ◌∷◌, ◌++◌, length, Bool, true, false, if◌then◌else◌, refl, sym, ap, ◌∙◌, append_assoc, arith}
use Rattle.std.proofs.lemmas.Bool.{eq-eqb, eqb-true, false≢true}
use Rattle.amber_rows.specs.Chunks.{chunks_of}
use Rattle.amber_rows.specs.declared.value.Value.{Value}
use Rattle.amber_rows.specs.declared.batch.Batch.{Batch}
use Rattle.amber_link.specs.Outgoing.{Adds, Carries, EndsStream, Outgoing, left_over, with_end, with_row}
use Rattle.amber_link.proofs.Chunked.{chunks-end, chunks-full, chunks-more, left_over-few}

-- an end that has not ended, as it stands after a row more
module _ (out : Outgoing) (row : List Value) (unended : out.ended ≡ false) where
  module _ (gone : List Batch) (pushed : List (List Value)) (carries : Carries out gone pushed) where
    kept : out.partial ≡ left_over out.batch_size pushed
    kept = carries.partial ∙ ap (λ b. if b then [] else left_over out.batch_size pushed) unended

    whole : gone ++ out.waiting ≡ chunks_of out.batch_size pushed false
    whole = carries.batches ∙ ap (chunks_of out.batch_size pushed) unended

    few : length out.partial < out.batch_size
    few = rw kept (left_over-few out.batch_size pushed carries.some)

    filled : length out.partial + 1 ≡ out.batch_size → Carries (record out {
      made = out.made + 1;
      waiting = out.waiting ++ record { seq = out.made; rows = out.partial ++ row ∷ []; last = false } ∷ [];
      partial = [];
      room = out.room - 1;
    }) gone (pushed ++ row ∷ [])
    filled full =
        let full_left : length (left_over out.batch_size pushed) + 1 ≡ out.batch_size = ap (λ rows. length rows + 1) (sym kept) ∙ full in
        let more = chunks-full out.batch_size pushed row full_left in record {
          some = carries.some;
          batches =
              sym (append_assoc gone out.waiting _)
              ∙ ap (λ l. l ++ record { seq = out.made; rows = out.partial ++ row ∷ []; last = false } ∷ []) whole
              ∙ ap (λ n. chunks_of out.batch_size pushed false ++ record { seq = n; rows = out.partial ++ row ∷ []; last = false } ∷ []) (carries.made unended)
              ∙ ap (λ (rows : List (List Value)). chunks_of out.batch_size pushed false ++ record { seq = length pushed / out.batch_size; rows = rows ++ row ∷ []; last = false } ∷ []) kept
              ∙ sym more.1
              ∙ ap (chunks_of out.batch_size (pushed ++ row ∷ [])) (sym unended);
          partial = sym more.2 ∙ ap (λ b. if b then [] else left_over out.batch_size (pushed ++ row ∷ [])) (sym unended);
          made = λ e. ap (λ n. n + 1) (carries.made unended) ∙ sym more.0;
        }

    kept-on : length out.partial + 1 < out.batch_size → Carries (record out { partial = out.partial ++ row ∷ []; room = out.room - 1 }) gone (pushed ++ row ∷ [])
    kept-on less =
        let less_left : length (left_over out.batch_size pushed) + 1 < out.batch_size = rw (← kept) less in
        let more = chunks-more out.batch_size pushed row less_left in record {
          some = carries.some;
          batches = whole ∙ sym more.1 ∙ ap (chunks_of out.batch_size (pushed ++ row ∷ [])) (sym unended);
          partial = ap (λ rows. rows ++ row ∷ []) kept ∙ sym more.2 ∙ ap (λ b. if b then [] else left_over out.batch_size (pushed ++ row ∷ [])) (sym unended);
          made = λ e. carries.made unended ∙ sym more.0;
        }

  by_size : (b : Bool) → eqb (length out.partial + 1) out.batch_size ≡ b → (gone : List Batch) (pushed : List (List Value)) → Carries out gone pushed
      → Carries (if b then record out {
        made = out.made + 1;
        waiting = out.waiting ++ record { seq = out.made; rows = out.partial ++ row ∷ []; last = false } ∷ [];
        partial = [];
        room = out.room - 1;
      } else record out { partial = out.partial ++ row ∷ []; room = out.room - 1 }) gone (pushed ++ row ∷ [])
  by_size true e gone pushed carries = filled gone pushed carries (eqb-true (length out.partial + 1) out.batch_size e)
  by_size false e gone pushed carries =
      let less = few gone pushed carries in
      let ne : length out.partial + 1 ≢ out.batch_size = λ same. false≢true (sym e ∙ eq-eqb (length out.partial + 1) out.batch_size same) in
      kept-on gone pushed carries (omega arith)

  batch_size-same : (b : Bool) → (if b then record out {
    made = out.made + 1;
    waiting = out.waiting ++ record { seq = out.made; rows = out.partial ++ row ∷ []; last = false } ∷ [];
    partial = [];
    room = out.room - 1;
  } else record out { partial = out.partial ++ row ∷ []; room = out.room - 1 }).batch_size ≡ out.batch_size
  batch_size-same true = refl
  batch_size-same false = refl

  ended-same : (b : Bool) → (if b then record out {
    made = out.made + 1;
    waiting = out.waiting ++ record { seq = out.made; rows = out.partial ++ row ∷ []; last = false } ∷ [];
    partial = [];
    room = out.room - 1;
  } else record out { partial = out.partial ++ row ∷ []; room = out.room - 1 }).ended ≡ false
  ended-same true = unended
  ended-same false = unended

  pub adds-row : (new : Outgoing) → new ≡ with_row row out → Adds out row new
  adds-row new is = rw is (record {
    each = by_size (eqb (length out.partial + 1) out.batch_size) refl;
    batch_size = batch_size-same (eqb (length out.partial + 1) out.batch_size);
    ended = ended-same (eqb (length out.partial + 1) out.batch_size);
  })

-- the end
pub closes-end : (out new : Outgoing) → out.ended ≡ false → new ≡ with_end out → EndsStream out new
closes-end out new unended is = rw is (record {
  each = λ gone pushed carries.
      let kept : out.partial ≡ left_over out.batch_size pushed = carries.partial ∙ ap (λ b. if b then [] else left_over out.batch_size pushed) unended in
      record {
        some = carries.some;
        batches =
            sym (append_assoc gone out.waiting _)
            ∙ ap (λ l. l ++ record { seq = out.made; rows = out.partial; last = true } ∷ []) (carries.batches ∙ ap (chunks_of out.batch_size pushed) unended)
            ∙ ap (λ n. chunks_of out.batch_size pushed false ++ record { seq = n; rows = out.partial; last = true } ∷ []) (carries.made unended)
            ∙ ap (λ (rows : List (List Value)). chunks_of out.batch_size pushed false ++ record { seq = length pushed / out.batch_size; rows = rows; last = true } ∷ []) kept
            ∙ sym (chunks-end out.batch_size pushed carries.some);
        partial = refl;
        made = λ e. absurd (false≢true (sym e));
      };
  batch_size = refl;
  ended = refl;
})

-- room alone carries nothing
pub carries-roomy : (old new : Outgoing) (gone : List Batch) (pushed : List (List Value)) → new ≡ record old { room = new.room } → Carries old gone pushed → Carries new gone pushed
carries-roomy old new gone pushed is carries =
    rw is (record { some = carries.some; batches = carries.batches; partial = carries.partial; made = carries.made })

pub adds-roomy : (old between new : Outgoing) (row : List Value) → between ≡ record old { room = between.room } → Adds between row new → Adds old row new
adds-roomy old between new row is adds = record {
  each = λ gone pushed carries. adds.each gone pushed (carries-roomy old between gone pushed is carries);
  batch_size = adds.batch_size ∙ ap (λ (o : Outgoing). o.batch_size) is;
  ended = adds.ended;
}

pub closes-roomy : (old between new : Outgoing) → between ≡ record old { room = between.room } → EndsStream between new → EndsStream old new
closes-roomy old between new is closes = record {
  each = λ gone pushed carries. closes.each gone pushed (carries-roomy old between gone pushed is carries);
  batch_size = closes.batch_size ∙ ap (λ (o : Outgoing). o.batch_size) is;
  ended = closes.ended;
}
