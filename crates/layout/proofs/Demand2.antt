-- The tender's demand 2, proved of the written rules: lawful lines and lawful records are one to one, and everything else is refused by the first rule it breaks.
use mathlib.Core.Path.{refl, sym, ap, ◌∙◌}
use Rattle.refusal.specs.Answer.{Answer}
use Rattle.layout.specs.Demand2.{Demand2}
use Rattle.layout.specs.Line.{read, line_of, out_after, write_into}
use Rattle.layout.proofs.Answers.{end_read, no_line_read, bad_byte_read, bad_field_read, lawful_read, read_says, field_said, read_back, written_reads}
use Rattle.layout.proofs.Answers.{no_room_write, lawful_write, bad_value_write, lawful_written, one_written, write_says}

pub demand2 : Demand2 read write_into
demand2 =
    record {
      lawful_reads = λ s. (lawful_read s, λ h. (read_says s h.1).0);
      says = field_said;
      read_back = λ s r e. ((read_back s r e).0, λ out room. rw (← (read_back s r e).1) (lawful_written r out (read_back s r e).0 room));
      lawful_writes = λ r out room. (λ h. lawful_write r out h room, write_says r out);
      written_reads = λ r out h room. (line_of r, lawful_written r out h room, written_reads r h);
      one_line = λ s t r p q. sym (read_back s r p).1 ∙ (read_back t r q).1;
      one_record = one_written;
      end_reads = λ s. (read_says s, end_read s);
      no_line = λ s. (λ e. (read_says s e).by1 refl, λ h. no_line_read s h.0 h.1);
      bad_byte = λ s. (λ e. (read_says s e).by2 refl, λ h. bad_byte_read s h.0 h.1);
      bad_field = λ s n. (λ e. (read_says s e).by3 refl, λ h. bad_field_read s n h.0 h.1 h.2);
      other_reads = λ s n f e. (read_says s e).number;
      no_room = λ r out. (λ e. (write_says r out e).by4 refl, no_room_write r out);
      bad_value = λ r out n. (λ e. (write_says r out e).by3 refl, λ h. bad_value_write r out n h.0 h.1);
      other_writes = λ r out n f e. (write_says r out e).number;
      refused_keeps = λ r out n f e. ap (λ (a : Answer (Unit {0})). out_after a r out) e;
    }
