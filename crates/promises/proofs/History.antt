-- Over any requests one after another a sound area stays sound, and its records are the opening ones with just the accepted changes made: demand 3.
use Rattle.std.specs.Prelude.{Err}
use Prim.Native.Nat.{ℕ, zero, suc, ◌+◌, ◌≤◌, ◌<◌}
use mathlib.Core.Path.{◌≡◌, refl, ◌∙◌, sym, ap}
use mathlib.Core.List.{List, [], ◌∷◌, ◌++◌}
use lib.ListN.{length}
use native.Mathlib.Omega.{arith}
use Rattle.fields.specs.Bytes.{Octets}
use Rattle.fields.proofs.Choices.{both-split}
use Rattle.measures.specs.declared.Measures.{Measures}
use Rattle.measures.proofs.Fine.{passed_apart}
use Rattle.index.specs.Meaning.{named, count, below, once, named_once}
use Rattle.index.proofs.Counting.{once-each, count-out}
use Rattle.area.specs.Content.{Content, records_of, meaning_of, base_of}
use Rattle.area.specs.Reading.{whole, read_area}
use Rattle.area.proofs.Ascending.{records-ascend, numbers-once}
use Rattle.change.specs.Parts.{Edit}
use Rattle.change.specs.Content.{content_after}
use Rattle.change.proofs.Made.{made-whole, made-records, made-lent}
use Rattle.requests.specs.Answers.{Answer, number_of}
use Rattle.requests.specs.Model.{Change, insert, update, erase, make_change, make_all, Legal, total, gained_all, lost_all}
use Rattle.requests.specs.Reading.{Given, get_of, get_at_of, Gives}
use Rattle.requests.specs.Finding.{Keyed, Lies, Finds}
use Rattle.requests.specs.Changing.{Outcome, bytes_of, edit_of, change_of, Makes}
use Rattle.requests.specs.Accepted.{Accepted}
use Rattle.requests.specs.declared.Refusal.TheVariants.{Absent, NoRecord}
use Rattle.requests.proofs.Making.{total-all}
use Rattle.requests.proofs.Gets.{get-finds as area-get-finds, get-at-finds as area-get-at-finds}
use Rattle.requests.proofs.Accepted.{accepted}
use Rattle.requests.specs.Allowed.{Request, check, get, get_at, changes, ChangeAllowed, Allowed}
use Rattle.promises.specs.Trace.{Step, Trace, area_after, taking, accepted_in, Sound, Stands}
use Rattle.promises.proofs.Refused.{change-harmless}
use Rattle.promises.proofs.Fits.{accepted-fits-area}

-- A result that a get's contract allows is what it gives.
pub given_is : (g : Given) (a : Answer) (out : List ℕ) → Gives g a out → record { answer = a; output = out } ≡ g
given_is g a out k = rw (k.answers, k.outputs)

module _ (m : Measures) where
  -- ---- one change

  -- What an allowed change hands over is bytes,
  pub change-octets : (before after : List ℕ) (ch : Change) (a : Answer) → ChangeAllowed m before ch a after → Octets (bytes_of ch)
  change-octets before after (insert r) a k = k.0
  change-octets before after (update r) a k = k.0
  change-octets before after (erase wanted) a k = k.0

  -- and its result is the one that the request's contract gives.
  pub change-makes : (before after : List ℕ) (ch : Change) (a : Answer) → ChangeAllowed m before ch a after → Makes (change_of m before ch) a after
  change-makes before after (insert r) a k = k.1
  change-makes before after (update r) a k = k.1
  change-makes before after (erase wanted) a k = k.1

  module _ (n : ℕ) where
    -- what an accepted change left
    record Left (before after : List ℕ) (c : Content) (ch : Change) : Type 0 where
      content : Content
      sound : Sound m n after content
      long : length after ≡ length before
      records : records_of content.filled ≡ make_change m ch (records_of c.filled)
      legal : Legal m ch (records_of c.filled)

    change-left : (before : List ℕ) (c : Content) → Sound m n before c → (ch : Change) (o : Outcome) → Accepted m before ch o → Left before o.area c ch
    change-left before c s ch o a =
        let f = accepted-fits-area m before ch o s.octets a in
        let e : Edit = edit_of m a.c ch in
        let en : n ≡ a.n = sym (passed_apart m m a.n n (sym a.judges ∙ s.judges)).1 in
        let w : read_area m a.n before ≡ whole c = rw (← en) s.reads in
        let v : whole c ≡ whole a.c = sym w ∙ a.reads in
        let ec : c ≡ a.c = cc in
        let lent = made-lent m a.n before a.c e f a.ss a.planned in
        let l : length o.area ≡ length before = ap length a.leaves ∙ lent.fits.bytes ∙ sym f.lent.fits.bytes in
        record {
          content = content_after m a.c e;
          sound =
              record {
                octets = rw a.leaves lent.octets;
                judges = rw l s.judges;
                reads = rw (en, a.leaves) (made-whole m a.n before a.c e f a.ss a.planned);
              };
          long = l;
          records = rw ec (made-records m a.n before a.c e f ∙ a.makes);
          legal = rw ec a.legal;
        }

    -- ---- one request, and those after it

    stands-still : (before : List ℕ) (c : Content) → Sound m n before c → Stands m n before before (records_of c.filled) []
    unfolding make_all
    stands-still before c s =
        record { content = c; sound = s; long = refl; records = refl; ascend = records-ascend m n before c s.reads; legal = tt }

    module _ (before after last : List ℕ) (c : Content) (s : Sound m n before c) (chs : List Change)
        (later : (d : Content) → Sound m n after d → Stands m n after last (records_of d.filled) chs) where
      same_area : after ≡ before → Stands m n before last (records_of c.filled) chs
      same_area e = rw e at (later c (rw e s))

      one_more : (ch : Change) → Left before after c ch → Stands m n before last (records_of c.filled) (ch ∷ chs)
      unfolding make_all
      one_more ch l =
          let t = later l.content l.sound in
          record {
            content = t.content;
            sound = t.sound;
            long = t.long ∙ l.long;
            records = t.records ∙ ap (make_all m chs) l.records;
            ascend = t.ascend;
            legal = (l.legal, rw l.records at t.legal);
          }

      one-change : (ch : Change) (a : Answer) → ChangeAllowed m before ch a after → (k : ℕ) → number_of a ≡ k
          → Stands m n before last (records_of c.filled) (taking (changes ch) k chs)
      one-change ch a w zero z =
          let g = change-makes before after ch a w in
          let o : Outcome = change_of m before ch in
          let l = change-left before c s ch o (accepted m before ch (change-octets before after ch a w) (ap number_of (sym g.answers) ∙ z)) in
          one_more ch (rw g.leaves l)
      one-change ch a w (suc k) z =
          same_area
          (change-harmless m before ch a after (change-makes before after ch a w) (λ (y : number_of a ≡ 0). let x : suc k ≡ 0 = sym z ∙ y in omega arith))

      one-request : (q : Request) (a : Answer) (out : List ℕ) → Allowed m before q a after out
          → Stands m n before last (records_of c.filled) (taking q (number_of a) chs)
      one-request check a out w = same_area w.0
      one-request (get wanted lent) a out w = same_area w.0
      one-request (get_at address lent) a out w = same_area w.0
      one-request (changes ch) a out w = one-change ch a w (number_of a) refl

    -- Whatever is asked of a sound area, one request after another, refused ones among them: it is sound after the last, and its records are the opening
    -- ones with exactly the accepted changes made, each by its key alone and each one that might be made when its turn came.
    pub history : (ss : List Step) (area : List ℕ) (c : Content) → Sound m n area c → Trace m area ss
        → Stands m n area (area_after area ss) (records_of c.filled) (accepted_in ss)
    history [] area c s t = stands-still area c s
    history (x ∷ ss) area c s t =
        one-request area x.area (area_after x.area ss) c s (accepted_in ss) (λ (d : Content) (e : Sound m n x.area d). history ss x.area d e t.1)
        x.request x.answer x.output t.0

    -- ---- the same after every step

    -- The steps up to a point are a trace, and so are those from there on.
    trace-apart : (ss rest : List Step) (area : List ℕ) → Trace m area (ss ++ rest) → Trace m area ss × Trace m (area_after area ss) rest
    trace-apart [] rest area t = (tt, t)
    trace-apart (x ∷ ss) rest area t = let h = trace-apart ss rest x.area t.1 in ((t.0, h.0), h.1)

    module _ (area : List ℕ) (c : Content) (s : Sound m n area c) where
      -- After every step of a history, and not only after the last, the area is sound and holds the opening records with the changes accepted so far.
      pub history-throughout : (ss rest : List Step) → Trace m area (ss ++ rest) → Stands m n area (area_after area ss) (records_of c.filled) (accepted_in ss)
      history-throughout ss rest t = history ss area c s (trace-apart ss rest area t).0

      -- After any requests all records together have the opening bytes and those that came, without those that went: no byte is lost or invented.
      pub total-bytes : (ss : List Step) → Trace m area ss → (d : Content) → read_area m n (area_after area ss) ≡ whole d
          → total (records_of d.filled) + lost_all m (accepted_in ss) (records_of c.filled) ≡ total (records_of c.filled) + gained_all (accepted_in ss)
      total-bytes ss t d w =
          let h = history ss area c s t in
          let v : whole d ≡ whole h.content = sym w ∙ h.sound.reads in
          let e : d ≡ h.content = cc in
          rw (e, h.records) (total-all m (accepted_in ss) (records_of c.filled) (records-ascend m n area c s.reads) h.legal)

      -- After any requests every interval is named once, as free or by an entry, and no other number is named.
      pub named-once : (ss : List Step) → Trace m area ss → (d : Content) → read_area m n (area_after area ss) ≡ whole d
          → ((k : ℕ) → k < n → count k (named (meaning_of d)) ≡ 1) × ((k : ℕ) → n ≤ k → count k (named (meaning_of d)) ≡ 0)
      unfolding named_once
      named-once ss t d w =
          let xs : List ℕ = named (meaning_of d) in
          let b = both-split (below n xs) (once xs n) (numbers-once m n (area_after area ss) d w) in
          (λ (k : ℕ) (h : k < n). once-each xs n k b.1 h, λ (k : ℕ) (h : n ≤ k). count-out k n xs b.0 h)

      -- ---- gets at any step

      module _ (ss rest : List Step) (a : Answer) (after out lent : List ℕ) where
        -- At any step of a history a get by key finds exactly the record with that key among the opening records with the changes accepted so far: it is handed out at
        -- the output's front, or its length is told where the output is too short, or that there is none.
        pub get-finds : (wanted : List ℕ) → length wanted ≡ m.key
            → Trace m area (ss ++ (record { request = get wanted lent; answer = a; area = after; output = out } ∷ rest))
            → Finds (Keyed m wanted (make_all m (accepted_in ss) (records_of c.filled))) (Err Absent) lent (record { answer = a; output = out })
        get-finds wanted l t =
            let p = trace-apart ss (record { request = get wanted lent; answer = a; area = after; output = out } ∷ rest) area t in
            let h = history ss area c s p.0 in
            let now : List ℕ = area_after area ss in
            rw (given_is (get_of m now wanted lent) a out p.1.0.1, ← h.records)
            (area-get-finds m now n h.content h.sound.judges h.sound.reads h.sound.octets wanted lent l)

        -- At any step of a history a get by address finds exactly the record whose first byte has that address in the area as it then is read.
        pub get-at-finds : (address : ℕ)
            → Trace m area (ss ++ (record { request = get_at address lent; answer = a; area = after; output = out } ∷ rest))
            → (d : Content) → read_area m n (area_after area ss) ≡ whole d → Finds (Lies m (base_of d) address d.filled) (Err NoRecord) lent (record { answer = a; output = out })
        get-at-finds address t d w =
            let p = trace-apart ss (record { request = get_at address lent; answer = a; area = after; output = out } ∷ rest) area t in
            let h = history ss area c s p.0 in
            let now : List ℕ = area_after area ss in
            rw (given_is (get_at_of m now address lent) a out p.1.0.1) (area-get-at-finds m now n d h.sound.judges w address lent)
